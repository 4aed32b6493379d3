-- What a set is linked to, part by part, and the whole.
use Rattle.std.specs.Prelude.{◌≡◌, ℕ, List, Some, None, [], length, slice_get, option_map}
use Rattle.class_model.specs.declared.types.Primitive.TheVariants as primitive
use Rattle.class_model.specs.declared.class.ClassDef.{ClassDef}
use Rattle.machine_frames.specs.declared.flow.Fault.{Fault}
use Rattle.machine_frames.specs.Acts.{exception_of}
use Rattle.run_state.specs.Marks.{value_field}
use Rattle.run_state.specs.Objects.{primitive_array}
use Rattle.run_state.specs.Texts.{class_type, string_name, string_array}
use Rattle.run_state.specs.SetLooks.{main_of, field_place, first_statics}
use Rattle.linked_code.specs.declared.program.Narrowing.TheVariants as narrowing
use Rattle.linked_code.specs.declared.program.Method.{Method as LinkedMethod}
use Rattle.linked_code.specs.declared.program.Program.{Program}
use Rattle.linked_code.specs.Links.{Links, class_of_fault}
use Rattle.program_links.specs.declared.assembly.Code.{Code}
use Rattle.program_links.specs.declared.assembly.Rows.{Rows}
use Rattle.program_links.specs.declared.assembly.Ends.{Ends}
use Rattle.program_links.specs.Numbers.{Numbers}
use Rattle.program_links.specs.Each.{EachTo, Numbered}
use Rattle.program_links.specs.Methods.{set_methods}
use Rattle.program_links.specs.MethodTo.{MethodTo}
use Rattle.program_links.specs.RowTo.{IsClassType, ClassTo, ClassRow, TypeTo, TypeRow}
use Rattle.program_links.specs.WorldOf.{no_name, name_at, method_shown, world_of}

pub record CodeOf (set : List ClassDef) (t : Numbers) (code : Code) : Type 0 where
  pub methods : EachTo (MethodTo set t) (set_methods set) code.methods (length (set_methods set))
  pub types : Numbered (IsClassType t set) code.types (length set)
  pub arguments : slice_get t.types code.arguments ≡ Some string_array
  pub chars : slice_get t.types code.chars ≡ Some (primitive_array primitive.Char)

pub record RowsOf {T : Type 0} (none : T) (set : List ClassDef) (t : Numbers) (rows : Rows T) : Type 0 where
  pub classes : Numbered (ClassRow none set t) rows.classes (length set)
  pub no_class : ClassTo none set t (no_name set) rows.no_class
  pub types : Numbered (TypeRow none set t) rows.types (length t.types)
  pub no_type : TypeTo none set t (class_type (no_name set)) rows.no_type

-- a method that has nothing, of the class past the last
pub record IsNoMethod (set : List ClassDef) (m : LinkedMethod) : Type 0 where
  pub class : m.class ≡ length set
  pub params : m.params ≡ 0
  pub locals : m.locals ≡ 0
  pub code : m.code ≡ []
  pub handlers : m.handlers ≡ []
  pub native : m.native ≡ None
  pub begins : m.begins ≡ None
  pub narrowing : m.narrowing ≡ narrowing.Whole

pub record EndsOf {T : Type 0} (none : T) (set : List ClassDef) (t : Numbers) (class : ℕ) (ends : Ends T) : Type 0 where
  pub main : main_of set (name_at set class) ≡ option_map (method_shown set) ends.main
  pub faults : (k : Fault) → exception_of k ≡ name_at set (class_of_fault ends.faults k)
  pub no_method : IsNoMethod set ends.no_method
  pub string : string_name ≡ name_at set ends.string
  pub value : field_place set value_field ≡ ends.value
  pub texts : ends.texts ≡ t.texts
  pub statics : ends.statics ≡ first_statics none set

-- A program is a set, linked: in the world of the set, with some tables, its numbers lead to what the look-ups find.
abbrev pub IsLinked : {T : Type 0} → T → List ClassDef → List ℕ → Program T → Type 0
IsLinked none set main program = (t : Numbers) × Links none (world_of set main t) program
