-- The methods that code calls, by number.
use Rattle.std.proofs.Common.{◌≡◌, ◌∙◌, ℕ, ◌+◌, ◌<◌, zero, suc, Bool, true, ◌&&◌, IsTrue, ◌↔◌, List, [], ◌∷◌, ◌++◌, length, take, refl, sym, ap, Option, Some, None, arith, zero-add}
use Rattle.std.specs.Prelude.{slice_get, position, option_map, option_and_then, codes}
use Rattle.std.specs.Str.{chars}
use Rattle.std.proofs.lemmas.Bool.{and_parts}
use Rattle.std.proofs.lemmas.Option.{same_Some, none-some, slice_get_within, slice_get-map}
use Rattle.std.proofs.lemmas.List.{length-append}
use Rattle.lists.specs.Texts.{units_of}
use Rattle.class_model.specs.declared.types.MethodDesc.{MethodDesc}
use Rattle.class_model.specs.declared.types.MethodRef.{MethodRef}
use Rattle.class_model.specs.declared.class.MethodDef.{MethodDef}
use Rattle.class_model.specs.declared.class.ClassDef.{ClassDef}
use Rattle.set_lookups.specs.Above.{same_name, find_class}
use Rattle.set_lookups.specs.Same.{same_desc}
use Rattle.set_lookups.specs.SameTypes.{name_test}
use Rattle.set_lookups.specs.Lookups.{Member, member_of, member_in, any_method, has_method, method_here, supers, superinterfaces, method_from, resolve_method, receiver_name}
use Rattle.set_lookups.proofs.Lists.{at_left}
use Rattle.run_state.specs.Objects.{is_constructor}
use Rattle.run_state.specs.SetLooks.{method_of, method_in, shown_method, resolved}
use Rattle.look_laws.proofs.Alike.{placed}
use Rattle.program_links.proofs.Declared.{found_at_class}
use Rattle.program_links.specs.declared.before.Before.{Before}
use Rattle.program_links.specs.Before.{AreBefore}
use Rattle.class_model.specs.declared.insn.InvokeKind.{InvokeKind}
use Rattle.class_model.specs.declared.insn.InvokeKind.TheVariants as invoke
use Rattle.class_model.specs.declared.insn.Insn.TheVariants as insn
use Rattle.class_model.specs.Descriptor.{words_of}
use Rattle.linked_code.specs.declared.program.Call.{Call}
use Rattle.program_links.specs.LinkedTo.{TypeAt, CallAt, StaticCallTo}
use Rattle.program_links.specs.Numbers.{Numbers, Grows}
use Rattle.program_links.specs.Methods.{class_methods, set_methods, methods_before, Shows}

-- a member that is a method
pub record IsMethodOf (set : List ClassDef) (name : List ℕ) (m : Member) : Type 0 where
  pub class : ClassDef
  pub method : MethodDef
  pub there : slice_get set m.class ≡ Some class
  pub at : slice_get class.methods m.index ≡ Some method
  pub named : same_name method.name name ≡ true

index_by : (number : ℕ) (place : Option ℕ) (m : Member) → member_in number place ≡ Some m → place ≡ Some m.index
index_by number None m h = absurd (none-some m h)
index_by number (Some i) m h = ap (λ (k : Member). Some k.index) (same_Some (member_of number i) m h)

declared_by : (set : List ClassDef) (name : List ℕ) (desc : MethodDesc) (m : Member) (found : Option ClassDef) → slice_get set m.class ≡ found → method_here name desc any_method m.class found ≡ Some m → IsMethodOf set name m
declared_by set name desc m None e h = absurd (none-some m h)
declared_by set name desc m (Some c) e h =
    let p = placed (has_method name desc any_method) c.methods m.index (index_by m.class (position (has_method name desc any_method) c.methods) m h) in
    let passes = and_parts (same_name p.item.name name && same_desc p.item.desc desc) true p.passes in
    record { class = c; method = p.item; there = e; at = p.at; named = (and_parts (same_name p.item.name name) (same_desc p.item.desc desc) passes.0).0 }

member_by : (set : List ClassDef) (ref : MethodRef) (number : Option ℕ) (m : Member) → option_and_then (method_from set ref.name ref.desc) number ≡ Some m → IsMethodOf set ref.name m
unfolding method_from
member_by set ref None m h = absurd (none-some m h)
member_by set ref (Some n) m h =
    declared_by set ref.name ref.desc m (slice_get set m.class) refl (found_at_class set ref.name ref.desc any_method (supers set n ++ superinterfaces set n) m h)

pub method_member : (set : List ClassDef) (ref : MethodRef) (m : Member) → resolve_method set ref ≡ Some m → IsMethodOf set ref.name m
unfolding resolve_method
method_member set ref m h = member_by set ref (option_and_then (find_class set) (receiver_name ref.class)) m h

-- the method of a number
further : {A : Type 0} (xs ys : List A) (k : ℕ) → slice_get (xs ++ ys) (length xs + k) ≡ slice_get ys k
further [] ys k = ap (slice_get ys) (zero-add k)
further (x ∷ xs) ys k =
    let n : suc (length xs) + k ≡ suc (length xs + k) = omega arith in
    ap (slice_get (x ∷ xs ++ ys)) n ∙ further xs ys k

pub number_by : (set : List ClassDef) (class index : ℕ) (c : ClassDef) (d : MethodDef) → slice_get set class ≡ Some c → slice_get c.methods index ≡ Some d → slice_get (set_methods set) (methods_before set class + index) ≡ Some (method_of c d)
number_by [] class index c d e at = absurd (none-some c e)
number_by (x ∷ set) zero index c d e at =
    let same : x ≡ c = same_Some x c e in
    ap (slice_get (class_methods x ++ set_methods set)) (zero-add index)
    ∙ at_left (class_methods x) (set_methods set) index (method_of c d)
    (ap (λ (k : ClassDef). slice_get (class_methods k) index) same ∙ slice_get-map (method_of c) c.methods index ∙ ap (option_map (method_of c)) at)
number_by (x ∷ set) (suc class) index c d e at =
    let l = length-append (class_methods x) (set_methods (take class set)) in
    let n : methods_before (x ∷ set) (suc class) + index ≡ length (class_methods x) + (methods_before set class + index) = omega (arith, l) in
    ap (slice_get (class_methods x ++ set_methods set)) n ∙ further (class_methods x) (set_methods set) (methods_before set class + index) ∙ number_by set class index c d e at

shown_there : (set : List ClassDef) (m : Member) (c : ClassDef) (d : MethodDef) → slice_get set m.class ≡ Some c → slice_get c.methods m.index ≡ Some d → shown_method set m ≡ Some (method_of c d)
shown_there set m c d e at = ap (option_and_then (method_in m.index)) e ∙ ap (option_map (method_of c)) at

pub row_of_method : (set : List ClassDef) (rows : List Before) (ref : MethodRef) (m : Member) → AreBefore set rows (length set) → resolve_method set ref ≡ Some m → m.class < length rows
row_of_method set rows ref m are h =
    let is = method_member set ref m h in
    let has = are m.class is.class (slice_get_within set m.class is.class is.there) is.there in
    slice_get_within rows m.class has.row has.at

pub number_shows : (set : List ClassDef) (rows : List Before) (ref : MethodRef) (m : Member) (row : Before) (n : ℕ) → AreBefore set rows (length set) → resolve_method set ref ≡ Some m → slice_get rows m.class ≡ Some row → n ≡ row.methods + m.index → Shows set (shown_method set m) (Some n)
number_shows set rows ref m row n are h at e =
    let is = method_member set ref m h in
    let has = are m.class is.class (slice_get_within set m.class is.class is.there) is.there in
    let same : has.row ≡ row = same_Some has.row row (sym has.at ∙ at) in
    let k : n ≡ methods_before set m.class + m.index = e ∙ ap (λ (b : Before). b.methods + m.index) (sym same) ∙ ap (λ b. b + m.index) has.is.methods in
    (method_of is.class is.method, shown_there set m is.class is.method is.there is.at, ap (slice_get (set_methods set)) k ∙ number_by set m.class m.index is.class is.method is.there is.at)

-- what a reference resolves to
pub shows_resolved : (set : List ClassDef) (ref : MethodRef) (m : Member) (n : ℕ) → resolve_method set ref ≡ Some m → Shows set (shown_method set m) (Some n) → Shows set (resolved set ref) (Some n)
shows_resolved set ref m n h shows = (shows.0, ap (option_and_then (shown_method set)) h ∙ shows.1, shows.2)

-- constructors
init_units : units_of (codes "<init>") ≡ codes "<init>"
unfolding chars
init_units = refl

pub constructor_test : (name : List ℕ) (r : Bool) → (IsTrue r ↔ (name ≡ units_of (codes "<init>"))) → is_constructor name ≡ r
constructor_test name r h = sym (name_test name (units_of (codes "<init>")) r h ∙ ap (same_name name) init_units)

-- calls
pub static_linked : (set : List ClassDef) (ref : MethodRef) (n : ℕ) → Shows set (resolved set ref) (Some n) → StaticCallTo set (insn.Invoke invoke.Static ref) n
static_linked set ref n shows = record { ref = ref; is = refl; resolved = shows }

pub call_linked : (set : List ClassDef) (t1 t2 t3 : Numbers) (ref : MethodRef) (c : Call) (n : ℕ) → Shows set (resolved set ref) c.resolved → words_of ref.desc true ≡ c.words → is_constructor ref.name ≡ c.is_constructor → TypeAt t1 (λ named. ref.class ≡ named) c.ty → slice_get t2.selectors c.selector ≡ Some (record { name = ref.name; desc = ref.desc }) → Grows t1 t2 → Grows t2 t3 → slice_get t3.calls n ≡ Some c → (kind : InvokeKind) → CallAt set t3 kind (insn.Invoke kind ref) n
call_linked set t1 t2 t3 ref c n shows words init ty selector f g at kind = (
  c,
  at,
  record {
    ref = ref;
    is = refl;
    words = words;
    resolved = shows;
    constructor = init;
    ty = g.types c.ty ref.class (f.types c.ty ref.class (ty.1 ∙ ap Some (sym ty.2)));
    selector = g.selectors c.selector (record { name = ref.name; desc = ref.desc }) selector;
  },
)
