-- The tables behind the instructions of code: handlers (JVMS 4.7.3) and line numbers (4.7.12), by numbers of instructions.
use Rattle.std.specs.Prelude.{◌≡◌, ℕ, ◌<◌, ◌==◌, List, [], ◌∷◌, length, Option, Some, if◌then◌else◌}
use Rattle.class_input.specs.Grammar.{IsU16}
use Rattle.class_model.specs.declared.class.Handler.{Handler}
use Rattle.const_pool.specs.Pool.{Pool}
use Rattle.class_names.specs.Pieces.{joined, IsTable, AtIndex}
use Rattle.class_names.specs.Names.{MayName, NamesClass}
use Rattle.insn_code.specs.Offsets.{Offsets, start_number}
use Rattle.insn_code.specs.InsnBytes.{Two}

-- an offset at which the instruction of a number begins
abbrev pub Begins : Offsets → ℕ → ℕ → Type 0
Begins code offset number = start_number code.starts offset ≡ Some number

-- the number behind the last instruction before an offset, which may be the length of the code
abbrev pub end_number : Offsets → ℕ → Option ℕ
end_number code offset = if offset == code.size then Some (length code.starts) else start_number code.starts offset

abbrev pub EndsBefore : Offsets → ℕ → ℕ → Type 0
EndsBefore code offset number = end_number code offset ≡ Some number

-- an entry of the exception table: the class is absent where the handler is for every class
pub record IsHandler (p : Pool) (code : Offsets) (text : List ℕ) (handler : Handler) : Type 0 where
  pub start_text : List ℕ
  pub end_text : List ℕ
  pub target_text : List ℕ
  pub caught_text : List ℕ
  pub spelled : text ≡ joined (start_text ∷ end_text ∷ target_text ∷ caught_text ∷ [])
  pub start_is : AtIndex (Begins code) start_text handler.start
  pub end_is : AtIndex (EndsBefore code) end_text handler.end
  pub ordered : handler.start < handler.end
  pub target_is : AtIndex (Begins code) target_text handler.target
  pub caught_is : AtIndex (MayName (NamesClass p)) caught_text handler.caught

abbrev pub AreHandlers : Pool → Offsets → List ℕ → List Handler → Type 0
AreHandlers p code = IsTable (IsHandler p code)

-- a row of a LineNumberTable: where a line begins, and its number
abbrev pub IsLine : Offsets → List ℕ → ℕ × ℕ → Type 0
IsLine code = Two (AtIndex (Begins code)) IsU16

-- the content of a LineNumberTable
abbrev pub AreLines : Offsets → List ℕ → List (ℕ × ℕ) → Type 0
AreLines code = IsTable (IsLine code)
