-- Numbers of frames as they are read stay small.
use Rattle.std.specs.Prelude.{◌<◌, ◌≤◌, ◌^◌, length, All}
use Rattle.stack_maps.specs.declared.frame.RawType.{RawType}
use Rattle.stack_maps.specs.declared.frame.RawType.TheVariants.{Object, Uninit}
use Rattle.stack_maps.specs.declared.frame.RawFrame.{RawFrame}
use Rattle.stack_maps.specs.declared.written.Entries.{Entries}
use Rattle.stack_maps.specs.declared.written.Locals.{Locals}
use Rattle.stack_maps.specs.declared.written.Locals.TheVariants.{Kept, Chop, Append, Full}
use Rattle.stack_maps.specs.declared.written.Written.{Written}

abbrev pub AreSmall : Entries → Type 0
AreSmall entries = (entries.at < 2 ^ 63) × (length entries.types ≤ 65535)

abbrev pub SmallLocals : Locals → Type 0
SmallLocals Kept = Unit {0}
SmallLocals (Chop gone) = Unit {0}
SmallLocals (Append more) = AreSmall more
SmallLocals (Full all) = AreSmall all

abbrev pub IsSmall : Written → Type 0
IsSmall frame = SmallLocals frame.locals × AreSmall frame.stack

-- numbers of frames that are there fit their types
abbrev pub TypeFits : RawType → Type 0
TypeFits (Object k) = k < 2 ^ 16
TypeFits (Uninit k) = k < 2 ^ 16
TypeFits t = Unit {0}

pub record FrameFits (frame : RawFrame) : Type 0 where
  pub offset : frame.offset < 2 ^ 16
  pub locals : All TypeFits frame.locals
  pub stack : All TypeFits frame.stack
