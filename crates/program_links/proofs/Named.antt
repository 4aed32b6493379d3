-- Instructions that name something.
use Rattle.std.proofs.Common.{◌≡◌, ℕ, ℤ, List, refl, sym, ap, Some}
use Rattle.std.specs.Prelude.{slice_get}
use Rattle.class_model.specs.declared.types.JType.{JType}
use Rattle.class_model.specs.declared.insn.Insn.{Insn}
use Rattle.class_model.specs.declared.insn.Insn.TheVariants as insn
use Rattle.class_model.specs.declared.class.ClassDef.{ClassDef}
use Rattle.set_lookups.specs.Above.{same_name, find_class}
use Rattle.set_lookups.specs.SameTypes.{name_true}
use Rattle.linked_code.specs.declared.op.Op.{Op}
use Rattle.linked_code.specs.declared.op.Op.TheVariants as op
use Rattle.look_laws.proofs.Alike.{placed}
use Rattle.program_links.specs.Numbers.{Numbers}
use Rattle.program_links.specs.Plain.{plain_insn}
use Rattle.program_links.specs.LinkedTo.{TypeAt, LinkedTo}

pub cast_linked : (set : List ClassDef) (t : Numbers) (ty : JType) (n : ℕ) → TypeAt t (λ named. ty ≡ named) n → LinkedTo set t (insn.CheckCast ty) (op.CheckCast n)
cast_linked set t ty n at = (at.0, at.1, ap insn.CheckCast at.2)

pub question_linked : (set : List ClassDef) (t : Numbers) (ty : JType) (n : ℕ) → TypeAt t (λ named. ty ≡ named) n → LinkedTo set t (insn.InstanceOf ty) (op.InstanceOf n)
question_linked set t ty n at = (at.0, at.1, ap insn.InstanceOf at.2)

pub nest_linked : (set : List ClassDef) (t : Numbers) (ty : JType) (sizes n : ℕ) → TypeAt t (λ named. ty ≡ named) n → LinkedTo set t (insn.MultiNewArray ty sizes) (op.MultiNewArray n sizes)
nest_linked set t ty sizes n at = (at.0, at.1, ap (λ named. insn.MultiNewArray named sizes) at.2)

pub new_linked : (set : List ClassDef) (t : Numbers) (name : List ℕ) (n : ℕ) → find_class set name ≡ Some n → LinkedTo set t (insn.New name) (op.New n)
new_linked set t name n e =
    let p = placed (λ (class : ClassDef). same_name class.name name) set n e in
    (p.item, p.at, ap insn.New (sym (name_true p.item.name name p.passes)))

pub text_linked : (set : List ClassDef) (t : Numbers) (text : List ℕ) (n : ℕ) → slice_get t.texts n ≡ Some text → LinkedTo set t (insn.PushString text) (op.PushText n)
text_linked set t text n at = (text, at, refl)

pub table_linked : (set : List ClassDef) (t : Numbers) (low : ℤ) (default : ℕ) (targets : List ℕ) (n : ℕ) → slice_get t.tables n ≡ Some (record { low = low; default = default; targets = targets }) → LinkedTo set t (insn.TableSwitch low default targets) (op.TableSwitch n)
table_linked set t low default targets n at = (record { low = low; default = default; targets = targets }, at, refl)

pub rows_linked : (set : List ClassDef) (t : Numbers) (default : ℕ) (rows : List (ℤ × ℕ)) (n : ℕ) → slice_get t.rows n ≡ Some (record { default = default; rows = rows }) → LinkedTo set t (insn.LookupSwitch default rows) (op.LookupSwitch n)
rows_linked set t default rows n at = (record { default = default; rows = rows }, at, refl)

-- one that names nothing
pub plain_linked : (set : List ClassDef) (t : Numbers) (i : Insn) (o : Op) → plain_insn o ≡ Some i → LinkedTo set t i o
plain_linked set t i (op.Frame o) e = e
plain_linked set t i op.Return e = e
plain_linked set t i (op.ReturnValue k) e = e
plain_linked set t i op.ArrayLength e = e
plain_linked set t i (op.ArrayLoad k) e = e
plain_linked set t i (op.ArrayStore k) e = e
plain_linked set t i op.Throw e = e
plain_linked set t i (op.TableSwitch n) e = absurd cc
plain_linked set t i (op.LookupSwitch n) e = absurd cc
plain_linked set t i (op.InvokeStatic n) e = absurd cc
plain_linked set t i (op.InvokeSpecial n) e = absurd cc
plain_linked set t i (op.InvokeVirtual n) e = absurd cc
plain_linked set t i (op.InvokeInterface n) e = absurd cc
plain_linked set t i (op.PushText n) e = absurd cc
plain_linked set t i (op.GetStatic c n) e = absurd cc
plain_linked set t i (op.GetText c n) e = absurd cc
plain_linked set t i (op.PutStatic c n k b) e = absurd cc
plain_linked set t i (op.GetField n) e = absurd cc
plain_linked set t i (op.PutField n k b) e = absurd cc
plain_linked set t i (op.New n) e = absurd cc
plain_linked set t i (op.NewArray n) e = absurd cc
plain_linked set t i (op.MultiNewArray n b) e = absurd cc
plain_linked set t i (op.CheckCast n) e = absurd cc
plain_linked set t i (op.InstanceOf n) e = absurd cc
