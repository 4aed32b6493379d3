-- What a closed set gives of each instruction of its methods.
use Rattle.std.specs.Prelude.{◌≡◌, ℕ, Bool, true, false, List, Some, slice_get}
use Rattle.class_model.specs.declared.types.FieldRef.{FieldRef}
use Rattle.class_model.specs.declared.types.MethodRef.{MethodRef}
use Rattle.class_model.specs.declared.insn.Insn.{Insn}
use Rattle.class_model.specs.declared.insn.Insn.TheVariants as insn
use Rattle.class_model.specs.declared.class.FieldDef.{FieldDef}
use Rattle.class_model.specs.declared.class.ClassDef.{ClassDef}
use Rattle.set_lookups.specs.Above.{find_class}
use Rattle.set_lookups.specs.Lookups.{Member, resolve_field, resolve_method}
use Rattle.run_state.specs.SetLooks.{is_static}

-- a reference to a field that is there, and static or not
pub record FindsField (set : List ClassDef) (ref : FieldRef) (static : Bool) : Type 0 where
  pub member : Member
  pub class : ClassDef
  pub field : FieldDef
  pub resolves : resolve_field set ref ≡ Some member
  pub there : slice_get set member.class ≡ Some class
  pub at : slice_get class.fields member.index ≡ Some field
  pub kind : is_static field.flags ≡ static

-- whether a reference finds a field of an object
abbrev pub FindsObjectField : List ClassDef → FieldRef → Bool → Type 0
FindsObjectField set ref true = FindsField set ref false
FindsObjectField set ref false = Unit {0}

-- a reference to a method that is there
abbrev pub FindsMethod : List ClassDef → MethodRef → Type 0
FindsMethod set ref = (member : Member) × (resolve_method set ref ≡ Some member)

abbrev pub IsReady : List ClassDef → Insn → Type 0
IsReady set (insn.GetStatic field) = FindsField set field true
IsReady set (insn.PutStatic field) = FindsField set field true
IsReady set (insn.GetField field) = FindsField set field false
IsReady set (insn.PutField field) = FindsField set field false
IsReady set (insn.Invoke kind ref) = FindsMethod set ref
IsReady set (insn.New class) = (number : ℕ) × (find_class set class ≡ Some number)
IsReady set _ = Unit {0}
