-- A worked example: the class `A` whose `main` reads two bytes and writes their sum.
use Rattle.std.specs.Prelude.{pos, List, [], ◌∷◌, None}
use Rattle.class_model.specs.declared.insn.Width.TheVariants as width
use Rattle.class_model.specs.declared.insn.BinOp.TheVariants as operation
use Rattle.class_model.specs.declared.insn.Insn.TheVariants.{Bin, Return}
use Rattle.class_model.specs.declared.class.ClassDef.{ClassDef}
use Rattle.run_state.specs.declared.config.Config.{Config}
use Rattle.run_state.specs.Natives.{Read, Write, class_of, name_of, desc_of}
use Rattle.run_state.specs.ExampleClasses.{set_with, call, source_with, write_sink}

abbrev pub sum_set : List ClassDef
sum_set = set_with (call Read ∷ call Read ∷ Bin width.Int operation.Add ∷ call Write ∷ Return None ∷ []) [] []

-- `read` is a source of tag 1, and `write` a sink
abbrev pub sum_lists : Config
sum_lists = record { sources = source_with (class_of Read) (name_of Read) (desc_of Read) (pos 1) ∷ []; sinks = write_sink ∷ [] }
