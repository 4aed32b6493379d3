-- The whole of a program, from its parts.
use Rattle.std.proofs.Common.{◌≡◌, ◌∙◌, ℕ, ◌<◌, ◌≤◌, suc, true, List, [], ◌∷◌, length, map, refl, sym, ap, subst, Option, Some, None, arith, ◌⊎◌, inl, inr}
use Rattle.std.specs.Prelude.{slice_get, option_map, unwrap_or}
use Rattle.std.specs.List.{IsDistinct}
use Rattle.std.proofs.lemmas.Bool.{cases_lt}
use Rattle.std.proofs.lemmas.Option.{same_Some, none-some, slice_get-map, slice_get_past, slice_get_within}
use Rattle.class_model.specs.declared.types.Primitive.TheVariants as primitive
use Rattle.class_model.specs.declared.types.JType.{JType}
use Rattle.class_model.specs.declared.insn.Insn.{Insn}
use Rattle.class_model.specs.declared.class.Handler.{Handler}
use Rattle.class_model.specs.declared.class.ClassDef.{ClassDef}
use Rattle.set_lookups.specs.Above.{same_name, find_class}
use Rattle.set_lookups.specs.SameTypes.{name_true, name_self}
use Rattle.set_lookups.specs.First.{holds_of}
use Rattle.class_set.specs.Closed.{Closed}
use Rattle.run_state.specs.State.{Method}
use Rattle.run_state.specs.Natives.{Native}
use Rattle.run_state.specs.Marks.{value_field}
use Rattle.run_state.specs.Objects.{primitive_array}
use Rattle.run_state.specs.Texts.{class_type, string_name, string_array}
use Rattle.run_state.specs.SetLooks.{fits_in, main_of, field_place}
use Rattle.machine_frames.specs.declared.flow.Fault.{Fault}
use Rattle.machine_frames.specs.Acts.{exception_of}
use Rattle.linked_code.specs.declared.op.Op.{Op}
use Rattle.linked_code.specs.declared.native.Native.{Native as LinkedNative}
use Rattle.linked_code.specs.declared.program.Handler.{Handler as LinkedHandler}
use Rattle.linked_code.specs.declared.program.Method.{Method as LinkedMethod}
use Rattle.linked_code.specs.declared.program.LinkedClass.{LinkedClass}
use Rattle.linked_code.specs.declared.program.LinkedType.{LinkedType}
use Rattle.linked_code.specs.declared.program.Program.{Program}
use Rattle.linked_code.specs.Kept.{kept_by}
use Rattle.linked_code.specs.Numbered.{method_at, class_at, type_at}
use Rattle.linked_code.specs.Linked.{Linked, LinkedAt}
use Rattle.linked_code.specs.Links.{IsMethod, IsClass, IsType, native_of, handler_of, class_of_fault}
use Rattle.look_laws.proofs.Ways.{found_within}
use Rattle.program_links.specs.Numbers.{Numbers}
use Rattle.program_links.specs.Each.{EachTo, Numbered}
use Rattle.program_links.specs.Methods.{set_methods}
use Rattle.program_links.specs.CodeSoFar.{CodeTo}
use Rattle.program_links.specs.MethodTo.{NameTo, NativeTo, HandlerTo, MethodTo}
use Rattle.program_links.specs.LinkTo.{IsNoMethod, IsLinked}
use Rattle.program_links.specs.RowTo.{ClassTo, ClassRow, TypeTo, TypeRow, type_of_class}
use Rattle.program_links.specs.WorldOf.{no_name, no_method, name_at, method_shown, type_shown, world_of}
use Rattle.program_links.specs.Past.{past}
use Rattle.program_links.proofs.PastTexts.{past_other}
use Rattle.program_links.proofs.Leads.{Selects, HasTables, linked_is, there, named}
use Rattle.program_links.proofs.Apart.{same_place}
use Rattle.program_links.proofs.Fitting.{item_at, name_found, name_past, found_at, not_there, fits_past}

-- items of lists by number
get_past : {A : Type 0} (xs : List A) (d : A) (n : ℕ) → length xs ≤ n → unwrap_or (slice_get xs n) d ≡ d
get_past xs d n le = ap (λ found. unwrap_or found d) (slice_get_past xs n le)

same_lists : {A B : Type 0} (f : B → A) (xs : List A) (ys : List B) → length ys ≡ length xs → ((k : ℕ) (x : A) (y : B) → slice_get xs k ≡ Some x → slice_get ys k ≡ Some y → x ≡ f y) → xs ≡ map f ys
same_lists f [] [] e each = refl
same_lists f [] (y ∷ ys) e each = absurd (omega (arith, e))
same_lists f (x ∷ xs) [] e each = absurd (omega (arith, e))
same_lists f (x ∷ xs) (y ∷ ys) e each =
    ap (λ z. z ∷ xs) (each 0 x y refl refl) ∙ ap (λ zs. f y ∷ zs) (same_lists f xs ys (omega (arith, e)) (λ k z w at there. each (suc k) z w at there))

past_by : {A B : Type 0} (xs : List A) (ys : List B) (n : ℕ) → (n < length xs) ⊎ (length xs ≤ n) → slice_get xs n ≡ None → length ys ≡ length xs → length ys ≤ n
past_by xs ys n (inl lt) e many = let item = item_at xs n lt in absurd (none-some item.0 (sym e ∙ item.1))
past_by xs ys n (inr ge) e many = omega (arith, ge, many)

past_of : {A B : Type 0} (xs : List A) (ys : List B) (n : ℕ) → slice_get xs n ≡ None → length ys ≡ length xs → length ys ≤ n
past_of xs ys n e many = past_by xs ys n (cases_lt n (length xs)) e many

handler_with : ℕ → ℕ → ℕ → Option (List ℕ) → Handler
handler_with start end target caught = record { start = start; end = end; target = target; caught = caught }

handler_by : (h k : Handler) → h.start ≡ k.start → h.end ≡ k.end → h.target ≡ k.target → h.caught ≡ k.caught → h ≡ k
unfolding handler_with
handler_by h k s e t c =
    ap (λ x. handler_with x h.end h.target h.caught) s ∙ ap (λ x. handler_with k.start x h.target h.caught) e ∙ ap (λ x. handler_with k.start k.end x h.caught) t ∙ ap (handler_with k.start k.end k.target) c

past_name : (set : List ClassDef) (n : ℕ) → length set ≤ n → name_at set n ≡ no_name set
past_name set n le =
    ap (λ (found : Option (List ℕ)). unwrap_or found (no_name set))
    (slice_get-map (λ (class : ClassDef). class.name) set n ∙ ap (option_map (λ (class : ClassDef). class.name)) (slice_get_past set n le))

fits_by : (set : List ClassDef) (name : List ℕ) (b : ℕ) (found : Option ClassDef) → Closed set → slice_get set b ≡ found → fits_in set (class_type name) (class_type (name_at set b)) ≡ holds_of (λ c. fits_in set (class_type name) (type_of_class c)) found
fits_by set name b None closed e =
    ap (λ n. fits_in set (class_type name) (class_type n)) (ap (λ (found : Option (List ℕ)). unwrap_or found (no_name set))
    (slice_get-map (λ (class : ClassDef). class.name) set b ∙ ap (option_map (λ (class : ClassDef). class.name)) e))
    ∙ fits_past set (class_type name) closed
fits_by set name b (Some class) closed e = ap (λ n. fits_in set (class_type name) (class_type n)) (named set b class e)

type_fits : (set : List ClassDef) (ty : JType) (found : Option JType) → Closed set → fits_in set ty (unwrap_or found (class_type (no_name set))) ≡ holds_of (fits_in set ty) found
type_fits set ty None closed = fits_past set ty closed
type_fits set ty (Some other) closed = refl

-- numbers of classes
distinct_by : (set : List ClassDef) (a b : ℕ) → (b < length set) ⊎ (length set ≤ b) → Closed set → a < length set → name_at set a ≡ name_at set b → a ≡ b
distinct_by set a b (inl lt) closed there e = same_Some a b (sym (found_at set a closed there) ∙ ap (find_class set) e ∙ found_at set b closed lt)
distinct_by set a b (inr ge) closed there e =
    absurd (none-some a (sym (not_there set) ∙ ap (find_class set) (sym (past_name set b ge)) ∙ ap (find_class set) (sym e) ∙ found_at set a closed there))

classes_distinct : (set : List ClassDef) (a b : ℕ) → Closed set → a < length set → name_at set a ≡ name_at set b → a ≡ b
classes_distinct set a b closed there e = distinct_by set a b (cases_lt b (length set)) closed there e

-- the class of a method is that of its name, or one past the last
abbrev Owns : List ClassDef → ℕ → Type 0
Owns set k = (find_class set (name_at set k) ≡ Some k) ⊎ (k ≡ length set)

past_found : (set : List ClassDef) (j k : ℕ) → find_class set (name_at set j) ≡ Some j → k ≡ length set → name_at set j ≡ name_at set k → ⊥
past_found set j k f e same =
    none-some j (sym (not_there set) ∙ ap (find_class set) (sym (past_name set k (omega (arith, e)))) ∙ ap (find_class set) (sym same) ∙ f)

one_owner : (set : List ClassDef) (j k : ℕ) → Owns set j → Owns set k → name_at set j ≡ name_at set k → j ≡ k
one_owner set j k (inl f) (inl g) same = same_Some j k (sym f ∙ ap (find_class set) same ∙ g)
one_owner set j k (inl f) (inr e) same = absurd (past_found set j k f e same)
one_owner set j k (inr e) (inl g) same = absurd (past_found set k j g e (sym same))
one_owner set j k (inr e) (inr f) same = e ∙ sym f

begins_by : (set : List ClassDef) (name : Option (List ℕ)) (n : Option ℕ) (k : ℕ) → NameTo set name n → n ≡ Some k → k < length set
begins_by set None None k h e = absurd (none-some k e)
begins_by set (Some name) (Some n) k h e = found_within set name k (h ∙ e)
begins_by set None (Some n) k h e = absurd h
begins_by set (Some name) None k h e = absurd h

-- texts
told_by : (texts : List (List ℕ)) (a b : ℕ) (x : List ℕ) (found : Option (List ℕ)) → IsDistinct same_name texts → slice_get texts a ≡ Some x → slice_get texts b ≡ found → x ≡ unwrap_or found (past texts) → a ≡ b
told_by texts a b x None distinct at e same = absurd (past_other texts a x at same)
told_by texts a b x (Some y) distinct at e same = same_place same_name texts a b x y distinct name_true at e (subst (λ z. same_name x z ≡ true) same (name_self x))

texts_told : (texts : List (List ℕ)) (a b : ℕ) → IsDistinct same_name texts → a < length texts → unwrap_or (slice_get texts a) (past texts) ≡ unwrap_or (slice_get texts b) (past texts) → a ≡ b
texts_told texts a b distinct lt same =
    let x = item_at texts a lt in
    told_by texts a b x.0 (slice_get texts b) distinct x.1 refl (sym (there texts a x.0 (past texts) x.1) ∙ same)

text_there : (texts : List (List ℕ)) (n : ℕ) → n < length texts → slice_get texts n ≡ Some (unwrap_or (slice_get texts n) (past texts))
text_there texts n lt = let x = item_at texts n lt in x.1 ∙ ap Some (sym (there texts n x.0 (past texts) x.1))

-- methods
module _ {T : Type 0} (none : T) (set : List ClassDef) (main : List ℕ) (t : Numbers) (p : Program T) where
  class_of : (name : Option (List ℕ)) (n : Option ℕ) → NameTo set name n → name ≡ option_map (name_at set) n
  class_of None None h = refl
  class_of (Some name) (Some n) h = ap Some (sym (name_found set name n h))
  class_of None (Some n) h = absurd h
  class_of (Some name) None h = absurd h

  native_is : (n : Option Native) (l : Option LinkedNative) → NativeTo n l → n ≡ option_map native_of l
  native_is None None h = refl
  native_is (Some n) (Some l) h = ap Some h
  native_is None (Some l) h = absurd h
  native_is (Some n) None h = absurd h

  handler_is : (h : Handler) (k : LinkedHandler) → HandlerTo set h k → h ≡ handler_of none (world_of set main t) k
  handler_is h k is = handler_by h (handler_of none (world_of set main t) k) is.start is.end is.target (class_of h.caught k.caught is.caught)

  handlers_are : (hs : List Handler) (ks : List LinkedHandler) → EachTo (HandlerTo set) hs ks (length hs) → hs ≡ map (handler_of none (world_of set main t)) ks
  handlers_are hs ks each = same_lists (handler_of none (world_of set main t)) hs ks each.many (λ i h k at there.
      let has = each.each i h (slice_get_within hs i h at) at in
      handler_is h k (subst (λ (x : LinkedHandler). HandlerTo set h x) (same_Some has.item k (sym has.at ∙ there)) has.is))

  code_by : (insns : List Insn) (ops : List Op) (pc : ℕ) (i : Option Insn) (o : Option Op) → Selects set main t p → HasTables t p → CodeTo set t insns ops (length insns) → slice_get insns pc ≡ i → slice_get ops pc ≡ o → LinkedAt (world_of set main t) p i o
  code_by insns ops pc None None selects has code at there = tt
  code_by insns ops pc (Some i) None selects has code at there =
      let linked = code.each pc i (slice_get_within insns pc i at) at in
      absurd (none-some linked.linked (sym there ∙ linked.at))
  code_by insns ops pc None (Some o) selects has code at there =
      let item = item_at insns pc (omega (arith, slice_get_within ops pc o there, code.many)) in
      absurd (none-some item.0 (sym at ∙ item.1))
  code_by insns ops pc (Some i) (Some o) selects has code at there =
      let linked = code.each pc i (slice_get_within insns pc i at) at in
      subst (λ (x : Op). Linked (world_of set main t) p i x) (same_Some linked.linked o (sym linked.at ∙ there)) (linked_is set main t p i linked.linked selects has linked.is)

  method_is : (d : Method) (m : LinkedMethod) → Selects set main t p → HasTables t p → MethodTo set t d m → IsMethod none (world_of set main t) p d m
  method_is d m selects has h = record {
    class = sym (name_found set d.class m.class h.class);
    params = h.params;
    locals = h.locals;
    code = λ pc. code_by d.code m.code pc (slice_get d.code pc) (slice_get m.code pc) selects has h.code refl refl;
    handlers = handlers_are d.handlers m.handlers h.handlers;
    native = native_is d.native m.native h.native;
    begins = class_of d.begins m.begins h.begins;
    result = h.result;
  }

  no_code : (ops : List Op) (pc : ℕ) → ops ≡ [] → LinkedAt (world_of set main t) p None (slice_get ops pc)
  no_code ops pc e = subst (λ (xs : List Op). LinkedAt (world_of set main t) p None (slice_get xs pc)) (sym e) tt

  no_method_is : (m : LinkedMethod) → IsNoMethod set m → IsMethod none (world_of set main t) p (no_method set) m
  no_method_is m h = record {
    class = sym (name_past set m.class (sym h.class));
    params = sym h.params;
    locals = sym h.locals;
    code = λ pc. no_code m.code pc h.code;
    handlers = ap (map (handler_of none (world_of set main t))) (sym h.handlers);
    native = ap (option_map native_of) (sym h.native);
    begins = ap (option_map (name_at set)) (sym h.begins);
    result = λ v. ap (λ k. kept_by k v) (sym h.narrowing);
  }

  methods_by : (n : ℕ) (d : Option Method) → Selects set main t p → HasTables t p → EachTo (MethodTo set t) (set_methods set) p.methods (length (set_methods set)) → IsNoMethod set p.no_method → slice_get (set_methods set) n ≡ d → IsMethod none (world_of set main t) p (unwrap_or d (no_method set)) (method_at p n)
  methods_by n None selects has each gone e =
      subst (λ (m : LinkedMethod). IsMethod none (world_of set main t) p (no_method set) m) (sym (get_past p.methods p.no_method n (past_of (set_methods set) p.methods n e each.many))) (no_method_is p.no_method gone)
  methods_by n (Some d) selects has each gone e =
      let m = each.each n d (slice_get_within (set_methods set) n d e) e in
      subst (λ (x : LinkedMethod). IsMethod none (world_of set main t) p d x) (sym (there p.methods n m.item p.no_method m.at)) (method_is d m.item selects has m.is)

  methods_are : (n : ℕ) → Selects set main t p → HasTables t p → EachTo (MethodTo set t) (set_methods set) p.methods (length (set_methods set)) → IsNoMethod set p.no_method → IsMethod none (world_of set main t) p (method_shown set n) (method_at p n)
  methods_are n selects has each gone = methods_by n (slice_get (set_methods set) n) selects has each gone refl

  -- classes
  class_is : (name : List ℕ) (row : LinkedClass T) → Closed set → ClassTo none set t name row → IsClass none (world_of set main t) name row
  class_is name row closed h = record {
    ty = h.ty;
    fits = λ b. fits_by set name b (slice_get set b) closed refl ∙ sym (h.fits b);
    above = h.above;
    fresh = h.fresh;
    starts = h.starts;
  }

  classes_by : (n : ℕ) → (n < length set) ⊎ (length set ≤ n) → Closed set → Numbered (ClassRow none set t) p.classes (length set) → ClassTo none set t (no_name set) p.no_class → ClassTo none set t (name_at set n) (class_at p n)
  classes_by n (inl lt) closed rows gone =
      let row = item_at p.classes n (omega (arith, lt, rows.many)) in
      subst (λ (r : LinkedClass T). ClassTo none set t (name_at set n) r) (sym (there p.classes n row.0 p.no_class row.1)) (rows.each n row.0 row.1)
  classes_by n (inr ge) closed rows gone =
      subst (λ (r : LinkedClass T). ClassTo none set t (name_at set n) r) (sym (get_past p.classes p.no_class n (omega (arith, ge, rows.many))))
      (subst (λ (name : List ℕ). ClassTo none set t name p.no_class) (sym (past_name set n ge)) gone)

  rows_are : (n : ℕ) → Closed set → Numbered (ClassRow none set t) p.classes (length set) → ClassTo none set t (no_name set) p.no_class → ClassTo none set t (name_at set n) (class_at p n)
  rows_are n closed rows gone = classes_by n (cases_lt n (length set)) closed rows gone

  -- types
  type_is : (ty : JType) (row : LinkedType T) → Closed set → TypeTo none set t ty row → IsType none (world_of set main t) ty row
  type_is ty row closed h = record {
    array = h.array;
    numbers = h.numbers;
    element = h.element;
    narrows = h.narrows;
    default = h.default;
    receiver = h.receiver;
    base = h.base;
    fits = λ b. type_fits set ty (slice_get t.types b) closed ∙ sym (h.fits b);
  }

  types_by : (n : ℕ) (ty : Option JType) → slice_get t.types n ≡ ty → Numbered (TypeRow none set t) p.types (length t.types) → TypeTo none set t (class_type (no_name set)) p.no_type → TypeTo none set t (unwrap_or ty (class_type (no_name set))) (type_at p n)
  types_by n None e rows gone =
      subst (λ (r : LinkedType T). TypeTo none set t (class_type (no_name set)) r) (sym (get_past p.types p.no_type n (past_of t.types p.types n e rows.many))) gone
  types_by n (Some ty) e rows gone =
      let row = item_at p.types n (omega (arith, slice_get_within t.types n ty e, rows.many)) in
      subst (λ (r : LinkedType T). TypeTo none set t ty r) (sym (there p.types n row.0 p.no_type row.1)) (rows.each n row.0 row.1 ty e)

  type_rows_are : (n : ℕ) → Numbered (TypeRow none set t) p.types (length t.types) → TypeTo none set t (class_type (no_name set)) p.no_type → TypeTo none set t (type_shown set t n) (type_at p n)
  type_rows_are n rows gone = types_by n (slice_get t.types n) refl rows gone

  -- whose methods are
  owner_by : (n : ℕ) (d : Option Method) → EachTo (MethodTo set t) (set_methods set) p.methods (length (set_methods set)) → IsNoMethod set p.no_method → slice_get (set_methods set) n ≡ d → Owns set (method_at p n).class
  owner_by n None each gone e =
      subst (λ (m : LinkedMethod). Owns set m.class) (sym (get_past p.methods p.no_method n (past_of (set_methods set) p.methods n e each.many))) (inr gone.class)
  owner_by n (Some d) each gone e =
      let m = each.each n d (slice_get_within (set_methods set) n d e) e in
      subst (λ (x : LinkedMethod). Owns set x.class) (sym (there p.methods n m.item p.no_method m.at))
      (inl (ap (find_class set) (name_found set d.class m.item.class m.is.class) ∙ m.is.class))

  owner : (n : ℕ) → EachTo (MethodTo set t) (set_methods set) p.methods (length (set_methods set)) → IsNoMethod set p.no_method → Owns set (method_at p n).class
  owner n each gone = owner_by n (slice_get (set_methods set) n) each gone refl

  begins_at : (n k : ℕ) (d : Option Method) → EachTo (MethodTo set t) (set_methods set) p.methods (length (set_methods set)) → IsNoMethod set p.no_method → slice_get (set_methods set) n ≡ d → (method_at p n).begins ≡ Some k → k < length set
  begins_at n k None each gone e h =
      absurd (none-some k (sym gone.begins ∙ sym (ap (λ (m : LinkedMethod). m.begins) (get_past p.methods p.no_method n (past_of (set_methods set) p.methods n e each.many))) ∙ h))
  begins_at n k (Some d) each gone e h =
      let m = each.each n d (slice_get_within (set_methods set) n d e) e in
      begins_by set d.begins m.item.begins k m.is.begins (sym (ap (λ (x : LinkedMethod). x.begins) (there p.methods n m.item p.no_method m.at)) ∙ h)

-- the whole
less_by : {k m n : ℕ} → m ≡ n → k < m → k < n
less_by e lt = omega (arith, e, lt)

pub linked : {T : Type 0} (none : T) (set : List ClassDef) (main : ℕ) (t : Numbers) (p : Program T) → Closed set → HasTables t p → IsDistinct same_name t.texts → EachTo (MethodTo set t) (set_methods set) p.methods (length (set_methods set)) → IsNoMethod set p.no_method → Numbered (ClassRow none set t) p.classes (length set) → ClassTo none set t (no_name set) p.no_class → Numbered (TypeRow none set t) p.types (length t.types) → TypeTo none set t (class_type (no_name set)) p.no_type → ((k : Fault) → exception_of k ≡ name_at set (class_of_fault p.faults k)) → main_of set (name_at set main) ≡ option_map (method_shown set) p.main → slice_get t.types p.arguments ≡ Some string_array → string_name ≡ name_at set p.string → slice_get t.types p.chars ≡ Some (primitive_array primitive.Char) → field_place set value_field ≡ p.value → IsLinked none set (name_at set main) p
linked none set main t p closed has distinct each no_method rows no_class types no_type faults main_is arguments string chars value =
    let name = name_at set main in
    let selects : Selects set name t p = λ ref n at k. (rows_are none set name t p k closed rows no_class).selects ref n at in
    let many : length p.classes ≡ length set = rows.many in
    let has_texts : length p.texts ≡ length t.texts = ap length has.texts in (
      t,
      record {
        methods = λ n. methods_are none set name t p n selects has each no_method;
        classes = λ n. class_is none set name t p (name_at set n) (class_at p n) closed (rows_are none set name t p n closed rows no_class);
        types = λ n. type_is none set name t p (type_shown set t n) (type_at p n) closed (type_rows_are none set name t p n types no_type);
        distinct = λ a b lt same. classes_distinct set a b closed (omega (arith, lt, many)) same;
        owners = λ a b same. one_owner set (method_at p a).class (method_at p b).class (owner none set name t p a each no_method) (owner none set name t p b each no_method) same;
        begins = λ n k h. less_by (sym many) (begins_at none set name t p n k (slice_get (set_methods set) n) each no_method refl h);
        faults = faults;
        main = main_is;
        arguments = sym (there t.types p.arguments string_array (class_type (no_name set)) arguments);
        texts = λ n lt. ap (λ texts. slice_get texts n) has.texts ∙ text_there t.texts n (omega (arith, lt, has_texts));
        told = λ a b lt same. texts_told t.texts a b distinct (omega (arith, lt, has_texts)) same;
        string = string;
        chars = sym (there t.types p.chars (primitive_array primitive.Char) (class_type (no_name set)) chars);
        value = value;
        quiet = λ d ts. refl;
        unmarked = λ d x. refl;
      },
    )
