use Rattle.std.specs.Prelude.{◌≢◌, ℤ, pos}
use Rattle.class_model.specs.declared.insn.BinOp.{BinOp}
use Rattle.class_model.specs.declared.insn.BinOp.TheVariants as operation

-- an operation has a result
abbrev pub IsDefined : BinOp → ℤ → Type 0
IsDefined operation.Add b = Unit {0}
IsDefined operation.Sub b = Unit {0}
IsDefined operation.Mul b = Unit {0}
IsDefined operation.Div b = b ≢ pos 0
IsDefined operation.Rem b = b ≢ pos 0
IsDefined operation.And b = Unit {0}
IsDefined operation.Or b = Unit {0}
IsDefined operation.Xor b = Unit {0}
