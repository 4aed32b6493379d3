-- What is linked leads to what the look-ups find, in the world of the set and the tables.
use Rattle.std.proofs.Common.{◌≡◌, ◌∙◌, ◌<◌, ℕ, List, length, map, sym, ap, subst, Option, Some, None}
use Rattle.std.specs.Prelude.{slice_get, unwrap_or, option_map}
use Rattle.std.proofs.lemmas.Option.{same_Some, slice_get-map, slice_get_within}
use Rattle.class_model.specs.declared.types.JType.{JType}
use Rattle.class_model.specs.declared.types.FieldRef.{FieldRef}
use Rattle.class_model.specs.declared.types.MethodRef.{MethodRef}
use Rattle.class_model.specs.declared.insn.InvokeKind.{InvokeKind}
use Rattle.class_model.specs.declared.insn.InvokeKind.TheVariants as invoke
use Rattle.class_model.specs.declared.insn.Insn.{Insn}
use Rattle.class_model.specs.declared.insn.Insn.TheVariants as insn
use Rattle.class_model.specs.declared.class.ClassDef.{ClassDef}
use Rattle.run_state.specs.State.{Method}
use Rattle.run_state.specs.Texts.{class_type}
use Rattle.run_state.specs.SetLooks.{resolved, selected_in, static_at}
use Rattle.machine_frames.specs.FrameOps.{frame_insn}
use Rattle.linked_code.specs.declared.op.Op.{Op}
use Rattle.linked_code.specs.declared.op.Op.TheVariants as op
use Rattle.linked_code.specs.declared.program.Table.{Table}
use Rattle.linked_code.specs.declared.program.Rows.{Rows}
use Rattle.linked_code.specs.declared.program.Program.{Program}
use Rattle.linked_code.specs.Numbered.{class_at}
use Rattle.linked_code.specs.Linked.{IsTable, AreRows, IsCallAt, Linked, MakesArray, selection}
use Rattle.program_links.specs.Methods.{set_methods, Shows}
use Rattle.program_links.specs.Numbers.{Numbers}
use Rattle.program_links.specs.LinkedTo.{CallAt, StaticTo, LinkedTo}
use Rattle.program_links.specs.Past.{past}
use Rattle.program_links.specs.WorldOf.{world_of, no_method, no_name, name_at}

-- the selections of a program's classes are those of the selectors' names and descriptors
abbrev pub Selects : {T : Type 0} → List ClassDef → List ℕ → Numbers → Program T → Type 0
Selects {T} set main t p =
    (ref : MethodRef) (n : ℕ) → slice_get t.selectors n ≡ Some (record { name = ref.name; desc = ref.desc }) → (k : ℕ)
    → selected_in set ((world_of {T = T} set main t).class k) ref ≡ option_map (world_of {T = T} set main t).method (selection (class_at p k).selects n)

-- a program has the tables
pub record HasTables {T : Type 0} (t : Numbers) (p : Program T) : Type 0 where
  pub calls : p.calls ≡ t.calls
  pub tables : p.tables ≡ t.tables
  pub rows : p.rows ≡ t.rows
  pub texts : p.texts ≡ t.texts

pub there : {A : Type 0} (xs : List A) (n : ℕ) (x d : A) → slice_get xs n ≡ Some x → unwrap_or (slice_get xs n) d ≡ x
there xs n x d e = ap (λ found. unwrap_or found d) e

pub shows_by : (set : List ClassDef) (found : Option Method) (n : Option ℕ) → Shows set found n → found ≡ option_map (λ k. unwrap_or (slice_get (set_methods set) k) (no_method set)) n
shows_by set found None h = h
shows_by set found (Some n) h = h.1 ∙ ap Some (sym (there (set_methods set) n h.0 (no_method set) h.2))

pub named : (set : List ClassDef) (n : ℕ) (class : ClassDef) → slice_get set n ≡ Some class → name_at set n ≡ class.name
named set n class e =
    there (map (λ (c : ClassDef). c.name) set) n class.name (no_name set) (slice_get-map (λ (c : ClassDef). c.name) set n ∙ ap (option_map (λ (c : ClassDef). c.name)) e)

module _ {T : Type 0} (set : List ClassDef) (main : List ℕ) (t : Numbers) (p : Program T) where
  is_table : (i : Insn) (n : ℕ) (table : Table) → slice_get t.tables n ≡ Some table → IsTable i (Some table) → p.tables ≡ t.tables → IsTable i (slice_get p.tables n)
  is_table i n table at is e = subst (IsTable i) (sym (ap (λ xs. slice_get xs n) e ∙ at)) is

  are_rows : (i : Insn) (n : ℕ) (rows : Rows) → slice_get t.rows n ≡ Some rows → AreRows i (Some rows) → p.rows ≡ t.rows → AreRows i (slice_get p.rows n)
  are_rows i n rows at is e = subst (AreRows i) (sym (ap (λ xs. slice_get xs n) e ∙ at)) is

  is_call : (kind : InvokeKind) (i : Insn) (n : ℕ) → CallAt set t kind i n → Selects set main t p → p.calls ≡ t.calls → IsCallAt (world_of set main t) p kind i (slice_get p.calls n)
  is_call kind i n at selects e =
      subst (IsCallAt (world_of set main t) p kind i) (sym (ap (λ xs. slice_get xs n) e ∙ at.1))
      (record {
        ref = at.2.ref;
        is = at.2.is;
        words = at.2.words;
        resolved = shows_by set (resolved set at.2.ref) at.0.resolved at.2.resolved;
        constructor = at.2.constructor;
        ty = sym (ap (λ found. unwrap_or found (class_type (no_name set))) at.2.ty);
        selected = selects at.2.ref at.0.selector at.2.selector;
      })

  -- a static field, with its class's name
  static_is : (field : FieldRef) (class place : ℕ) (text : Option (List ℕ)) → StaticTo set field class place text → static_at set field ≡ Some (record { class = (world_of {T = T} set main t).class class; place = place; text = text })
  static_is field class place text s = s.found ∙ ap (λ name. Some (record { class = name; place = place; text = text })) (sym (named set class s.of s.there))

  text_is : (n : ℕ) (text : List ℕ) → slice_get t.texts n ≡ Some text → text ≡ (world_of {T = T} set main t).text n
  text_is n text e = sym (there t.texts n text (past t.texts) e)

  text_within : (n : ℕ) (text : List ℕ) → slice_get t.texts n ≡ Some text → p.texts ≡ t.texts → n < length p.texts
  text_within n text e same = subst (λ (texts : List (List ℕ)). n < length texts) (sym same) (slice_get_within t.texts n text e)

  type_is : (n : ℕ) (ty : JType) → slice_get t.types n ≡ Some ty → ty ≡ (world_of {T = T} set main t).ty n
  type_is n ty e = sym (there t.types n ty (class_type (no_name set)) e)

  plain_is : (i j : Insn) → Some j ≡ Some i → i ≡ j
  plain_is i j e = sym (same_Some j i e)

  pub linked_is : (i : Insn) (o : Op) → Selects set main t p → HasTables t p → LinkedTo set t i o → Linked (world_of set main t) p i o
  linked_is i (op.Frame o) selects has h = plain_is i (frame_insn o) h
  linked_is i op.Return selects has h = plain_is i _ h
  linked_is i (op.ReturnValue k) selects has h = plain_is i _ h
  linked_is i op.ArrayLength selects has h = plain_is i _ h
  linked_is i (op.ArrayLoad e) selects has h = plain_is i _ h
  linked_is i (op.ArrayStore e) selects has h = plain_is i _ h
  linked_is i op.Throw selects has h = plain_is i _ h
  linked_is i (op.TableSwitch n) selects has h = is_table i n h.0 h.1 h.2 has.tables
  linked_is i (op.LookupSwitch n) selects has h = are_rows i n h.0 h.1 h.2 has.rows
  linked_is i (op.InvokeStatic n) selects has h = record { ref = h.ref; is = h.is; method = shows_by set (resolved set h.ref) (Some n) h.resolved }
  linked_is i (op.InvokeSpecial n) selects has h = is_call invoke.Special i n h selects has.calls
  linked_is i (op.InvokeVirtual n) selects has h = is_call invoke.Virtual i n h selects has.calls
  linked_is i (op.InvokeInterface n) selects has h = is_call invoke.Interface i n h selects has.calls
  linked_is i (op.PushText n) selects has h = (text_within n h.0 h.1 has.texts, h.2 ∙ ap insn.PushString (text_is n h.0 h.1))
  linked_is i (op.GetStatic class place) selects has h = record { field = h.0; is = h.1; found = static_is h.0 class place None h.2 }
  linked_is i (op.GetText class n) selects has h = (
    text_within n h.2.text h.2.has has.texts,
    (
      h.2.place,
      record {
        field = h.0;
        is = h.1;
        found = static_is h.0 class h.2.place (Some h.2.text) h.2.static ∙ ap (λ text. Some (record { class = (world_of {T = T} set main t).class class; place = h.2.place; text = Some text })) (text_is n h.2.text h.2.has);
      },
    ),
  )
  linked_is i (op.PutStatic class place kind keeps) selects has h =
      record { field = h.0; text = h.1; is = h.2; found = static_is h.0 class place h.1 h.3; kind_is = h.4.kind_is; narrows = h.4.narrows }
  linked_is i (op.GetField place) selects has h = record { field = h.0; is = h.1; found = h.2 }
  linked_is i (op.PutField place kind keeps) selects has h = record { field = h.0; is = h.1; found = h.2; kind_is = h.3.kind_is; narrows = h.3.narrows }
  linked_is i (op.New n) selects has h = h.2 ∙ ap insn.New (sym (named set n h.0 h.1))
  linked_is i (op.NewArray n) selects has h = subst (MakesArray i) (type_is n h.0 h.1) h.2
  linked_is i (op.MultiNewArray n sizes) selects has h = h.2 ∙ ap (λ ty. insn.MultiNewArray ty sizes) (type_is n h.0 h.1)
  linked_is i (op.CheckCast n) selects has h = h.2 ∙ ap insn.CheckCast (type_is n h.0 h.1)
  linked_is i (op.InstanceOf n) selects has h = h.2 ∙ ap insn.InstanceOf (type_is n h.0 h.1)
