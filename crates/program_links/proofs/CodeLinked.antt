-- Code, one instruction more.
use Rattle.std.proofs.Common.{◌≡◌, ◌∙◌, ℕ, ◌+◌, ◌<◌, ◌≤◌, List, [], ◌∷◌, ◌++◌, length, refl, sym, ap, subst, Some, arith, ◌⊎◌, inl, inr}
use Rattle.std.specs.Prelude.{slice_get}
use Rattle.std.proofs.lemmas.Bool.{cases_lt}
use Rattle.std.proofs.lemmas.Option.{same_Some}
use Rattle.std.proofs.lemmas.List.{length_push}
use Rattle.class_model.specs.declared.types.JType.{JType}
use Rattle.class_model.specs.declared.insn.InvokeKind.{InvokeKind}
use Rattle.class_model.specs.declared.insn.Insn.{Insn}
use Rattle.class_model.specs.declared.class.ClassDef.{ClassDef}
use Rattle.linked_code.specs.declared.op.Op.{Op}
use Rattle.linked_code.specs.declared.op.Op.TheVariants as op
use Rattle.set_lookups.proofs.Lists.{at_left}
use Rattle.program_links.specs.Numbers.{Numbers, Grows}
use Rattle.program_links.specs.LinkedTo.{CallAt, TypeAt, LinkedTo}
use Rattle.program_links.specs.CodeSoFar.{HasLinked, CodeTo}
use Rattle.program_links.proofs.Counted.{last_there}

call_grows : (set : List ClassDef) (t s : Numbers) (kind : InvokeKind) (i : Insn) (n : ℕ) → Grows t s → CallAt set t kind i n → CallAt set s kind i n
call_grows set t s kind i n g at = (
  at.0,
  g.calls n at.0 at.1,
  record {
    ref = at.2.ref;
    is = at.2.is;
    words = at.2.words;
    resolved = at.2.resolved;
    constructor = at.2.constructor;
    ty = g.types at.0.ty at.2.ref.class at.2.ty;
    selector = g.selectors at.0.selector (record { name = at.2.ref.name; desc = at.2.ref.desc }) at.2.selector;
  },
)

type_grows : (t s : Numbers) (is : JType → Type 0) (n : ℕ) → Grows t s → TypeAt t is n → TypeAt s is n
type_grows t s is n g at = (at.0, g.types n at.0 at.1, at.2)

-- what is linked stays so while the tables grow
pub linked_grows : (set : List ClassDef) (t s : Numbers) (i : Insn) (o : Op) → Grows t s → LinkedTo set t i o → LinkedTo set s i o
linked_grows set t s i (op.Frame o) g h = h
linked_grows set t s i op.Return g h = h
linked_grows set t s i (op.ReturnValue k) g h = h
linked_grows set t s i op.ArrayLength g h = h
linked_grows set t s i (op.ArrayLoad e) g h = h
linked_grows set t s i (op.ArrayStore e) g h = h
linked_grows set t s i op.Throw g h = h
linked_grows set t s i (op.TableSwitch n) g h = (h.0, g.tables n h.0 h.1, h.2)
linked_grows set t s i (op.LookupSwitch n) g h = (h.0, g.rows n h.0 h.1, h.2)
linked_grows set t s i (op.InvokeStatic n) g h = h
linked_grows set t s i (op.InvokeSpecial n) g h = call_grows set t s _ i n g h
linked_grows set t s i (op.InvokeVirtual n) g h = call_grows set t s _ i n g h
linked_grows set t s i (op.InvokeInterface n) g h = call_grows set t s _ i n g h
linked_grows set t s i (op.PushText n) g h = (h.0, g.texts n h.0 h.1, h.2)
linked_grows set t s i (op.GetStatic class place) g h = h
linked_grows set t s i (op.GetText class n) g h =
    (h.0, h.1, record { place = h.2.place; text = h.2.text; static = h.2.static; has = g.texts n h.2.text h.2.has })
linked_grows set t s i (op.PutStatic class place kind keeps) g h = h
linked_grows set t s i (op.GetField place) g h = h
linked_grows set t s i (op.PutField place kind keeps) g h = h
linked_grows set t s i (op.New n) g h = h
linked_grows set t s i (op.NewArray n) g h = type_grows t s _ n g h
linked_grows set t s i (op.MultiNewArray n sizes) g h = type_grows t s _ n g h
linked_grows set t s i (op.CheckCast n) g h = type_grows t s _ n g h
linked_grows set t s i (op.InstanceOf n) g h = type_grows t s _ n g h

has_by : (set : List ClassDef) (t s : Numbers) (insns : List Insn) (ops : List Op) (count pc : ℕ) (i j : Insn) (o : Op) → (pc < count) ⊎ (count ≤ pc) → pc < count + 1 → CodeTo set t insns ops count → Grows t s → slice_get insns count ≡ Some i → LinkedTo set s i o → slice_get insns pc ≡ Some j → HasLinked set s (ops ++ o ∷ []) pc j
has_by set t s insns ops count pc i j o (inl lt) le code g at is e =
    let has = code.each pc j lt e in
    record { linked = has.linked; at = at_left ops (o ∷ []) pc has.linked has.at; is = linked_grows set t s j has.linked g has.is }
has_by set t s insns ops count pc i j o (inr ge) le code g at is e =
    let n : pc ≡ count = omega (arith, ge, le) in
    let k : pc ≡ length ops = omega (arith, n, code.many) in
    let same : i ≡ j = same_Some i j (sym at ∙ ap (slice_get insns) (sym n) ∙ e) in
    record { linked = o; at = ap (slice_get (ops ++ o ∷ [])) k ∙ last_there ops o; is = subst (λ (x : Insn). LinkedTo set s x o) same is }

pub code_more : (set : List ClassDef) (t s : Numbers) (insns : List Insn) (ops : List Op) (count next : ℕ) (i : Insn) (o : Op) → CodeTo set t insns ops count → Grows t s → slice_get insns count ≡ Some i → LinkedTo set s i o → next ≡ count + 1 → CodeTo set s insns (ops ++ o ∷ []) next
code_more set t s insns ops count next i o code g at is n = record {
  many = length_push ops o ∙ ap (λ k. k + 1) code.many ∙ sym n;
  each = λ pc j lt e. has_by set t s insns ops count pc i j o (cases_lt pc count) (omega (arith, lt, n)) code g at is e;
}

pub no_code : (set : List ClassDef) (t : Numbers) (insns : List Insn) → CodeTo set t insns [] 0
no_code set t insns = record { many = refl; each = λ pc j lt e. absurd (omega (arith, lt)) }

pub code_grows : (set : List ClassDef) (t s : Numbers) (insns : List Insn) (ops : List Op) (count : ℕ) → CodeTo set t insns ops count → Grows t s → CodeTo set s insns ops count
code_grows set t s insns ops count code g = record {
  many = code.many;
  each = λ pc j lt e. let has = code.each pc j lt e in record { linked = has.linked; at = has.at; is = linked_grows set t s j has.linked g has.is };
}
