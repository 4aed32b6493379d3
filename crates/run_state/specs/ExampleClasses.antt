-- Small classes for worked examples, and what a run shows.
use Rattle.std.specs.Prelude.{ℕ, ℤ, pos, false, List, [], ◌∷◌, Option, Some, None, codes}
use Rattle.class_model.specs.declared.types.MethodDesc.{MethodDesc}
use Rattle.class_model.specs.declared.types.MethodRef.{MethodRef}
use Rattle.class_model.specs.declared.insn.Kind.TheVariants as kind
use Rattle.class_model.specs.declared.insn.InvokeKind.TheVariants as invoke
use Rattle.class_model.specs.declared.insn.Insn.{Insn}
use Rattle.class_model.specs.declared.insn.Insn.TheVariants.{PushInt, Invoke, Return}
use Rattle.class_model.specs.declared.class.Handler.{Handler}
use Rattle.class_model.specs.declared.class.CodeDef.{CodeDef}
use Rattle.class_model.specs.declared.class.MethodDef.{MethodDef}
use Rattle.class_model.specs.declared.class.ClassDef.{ClassDef}
use Rattle.run_state.specs.declared.config.Config.{Config}
use Rattle.run_state.specs.declared.config.Source.{Source}
use Rattle.run_state.specs.declared.config.Sink.{Sink}
use Rattle.run_state.specs.declared.report.Report.{Report}
use Rattle.run_state.specs.Texts.{class_type, object_name, int_type, main_name, main_desc}
use Rattle.run_state.specs.Natives.{Native, Read, Write, Exit, class_of, name_of, desc_of}
use Rattle.run_state.specs.State.{Ending}
use Rattle.run_state.specs.Observation.{Seen}

abbrev pub class_with : List ℕ → Option (List ℕ) → List MethodDef → ClassDef
class_with name super_name methods = record {
  minor = 0;
  major = 52;
  flags = 0x21;
  name = name;
  super_name = super_name;
  interfaces = [];
  fields = [];
  methods = methods;
  source = None;
  inner = [];
}

abbrev pub code_with : List Insn → List Handler → CodeDef
code_with insns handlers = record { max_stack = 8; max_locals = 4; insns = insns; handlers = handlers; frames = []; lines = [] }

abbrev pub static_method : List ℕ → MethodDesc → List Insn → List Handler → MethodDef
static_method name desc insns handlers = record { flags = 0x0009; name = name; desc = desc; throws = []; code = Some (code_with insns handlers) }

abbrev pub main_method : List Insn → List Handler → MethodDef
main_method insns handlers = static_method main_name main_desc insns handlers

abbrev pub native_method : Native → MethodDef
native_method n = record { flags = 0x0109; name = name_of n; desc = desc_of n; throws = []; code = None }

abbrev pub ref_to : List ℕ → List ℕ → MethodDesc → MethodRef
ref_to class name desc = record { class = class_type class; name = name; desc = desc; in_interface = false }

abbrev pub call : Native → Insn
call n = Invoke invoke.Static (ref_to (class_of n) (name_of n) (desc_of n))

-- ()V, ()I and (I)V
abbrev pub gives_nothing : MethodDesc
gives_nothing = record { params = []; result = None }

abbrev pub gives_int : MethodDesc
gives_int = record { params = []; result = Some int_type }

abbrev pub takes_int : MethodDesc
takes_int = record { params = int_type ∷ []; result = None }

abbrev pub object_class : ClassDef
object_class = class_with object_name None []

abbrev pub native_class : ClassDef
native_class = class_with (codes "sys/Native") (Some object_name) (native_method Read ∷ native_method Write ∷ native_method Exit ∷ [])

-- the class `T`, whose methods `a`, `b`, `c` and `d` give 97 to 100
abbrev pub letter : List ℕ → ℤ → MethodDef
letter name v = static_method name gives_int (PushInt v ∷ Return (Some kind.Int) ∷ []) []

abbrev pub letters_class : ClassDef
letters_class =
    class_with (codes "T") (Some object_name) (letter (codes "a") (pos 97) ∷ letter (codes "b") (pos 98) ∷ letter (codes "c") (pos 99) ∷ letter (codes "d") (pos 100) ∷ [])

abbrev pub call_letter : List ℕ → Insn
call_letter name = Invoke invoke.Static (ref_to (codes "T") name gives_int)

abbrev pub source_with : List ℕ → List ℕ → MethodDesc → ℤ → Source
source_with class name desc tag = record { class = class; name = name; desc = desc; tag = tag }

abbrev pub sink_with : List ℕ → List ℕ → MethodDesc → Sink
sink_with class name desc = record { class = class; name = name; desc = desc }

-- the four methods of `T` as sources of the tags 1, 2, 4 and 8
abbrev pub letter_sources : List Source
letter_sources =
    source_with (codes "T") (codes "a") gives_int (pos 1) ∷ source_with (codes "T") (codes "b") gives_int (pos 2)
    ∷ source_with (codes "T") (codes "c") gives_int (pos 4) ∷ source_with (codes "T") (codes "d") gives_int (pos 8) ∷ []

abbrev pub write_sink : Sink
write_sink = sink_with (class_of Write) (name_of Write) (desc_of Write)

-- and `write` as the sink
abbrev pub letter_lists : Config
letter_lists = record { sources = letter_sources; sinks = write_sink ∷ [] }

-- the class `A` with this `main`, and what stands beside it
abbrev pub set_with : List Insn → List Handler → List ClassDef → List ClassDef
set_with insns handlers others = class_with (codes "A") (Some object_name) (main_method insns handlers ∷ []) ∷ object_class ∷ native_class ∷ letters_class ∷ others

abbrev pub shows : List ℕ → List Report → Ending → Seen
shows console reports ending = record { console = console; reports = reports; ending = ending }

-- reports of the first sink's one argument, one for each tag
abbrev pub reports_of : List ℤ → List Report
reports_of [] = []
reports_of (t ∷ ts) = record { sink = pos 0; argument = pos 0; tag = t } ∷ reports_of ts
