-- What bytes that begin with a StackMapTable stand for.
use Rattle.std.specs.Prelude.{◌≡◌, ℕ, List, ◌++◌, length, Ok}
use Rattle.stack_maps.specs.declared.frame.RawType.{RawType}
use Rattle.stack_maps.specs.declared.frame.RawFrame.{RawFrame}
use Rattle.stack_maps.specs.declared.marks.FrameMark.{FrameMark}
use Rattle.stack_maps.specs.declared.written.Written.{Written}
use Rattle.stack_maps.specs.Grammar.{IsTable}
use Rattle.stack_maps.specs.Expand.{expanded}
use Rattle.stack_maps.specs.Marks.{table_marks}

-- the frames of a table, expanded from the locals of the first frame
pub record StandsFor (first : List RawType) (bytes : List ℕ) (frames : List RawFrame) : Type 0 where
  pub text : List ℕ
  pub rest : List ℕ
  pub written : List Written
  pub spelled : bytes ≡ text ++ rest
  pub table_is : IsTable (length first) 0 text written
  pub frames_are : expanded 0 first written ≡ Ok frames

-- the marks of a table that takes so many bytes, where the first frame has so many locals
pub record HasMarks (known : ℕ) (bytes : List ℕ) (marks : List FrameMark) (taken : ℕ) : Type 0 where
  pub text : List ℕ
  pub rest : List ℕ
  pub written : List Written
  pub spelled : bytes ≡ text ++ rest
  pub taken_is : taken ≡ length text
  pub table_is : IsTable known 0 text written
  pub marks_are : marks ≡ table_marks 0 written
