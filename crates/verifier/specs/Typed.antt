-- The frames that a check gives.
use Rattle.std.specs.Prelude.{◌≡◌, List}
use Rattle.class_model.specs.declared.class.Frame.{Frame}
use Rattle.type_rows.specs.Method.{Method}
use Rattle.verifier.specs.First.{first_frame}
use Rattle.verifier.specs.Verifies.{HasFrames}

-- the first frame of a method, and one for each instruction
pub record Typed : Type 0 where
  pub first : Frame
  pub frames : List Frame

-- they are those of the method
pub record IsTyped (m : Method) (typed : Typed) : Type 0 where
  pub first_is : typed.first ≡ first_frame m
  pub frames_are : HasFrames m typed.frames
