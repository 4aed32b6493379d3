-- What a closed set gives of each instruction of its methods.
use Rattle.std.proofs.Common.{◌≡◌, ◌∙◌, ℕ, ◌+◌, zero, suc, Bool, true, false, not, cond, List, [], ◌∷◌, ◌++◌, refl, sym, ap, Option, Some, None, arith}
use Rattle.std.specs.Prelude.{slice_get, flat_map, is_none, is_some, option_to_list, option_and_then}
use Rattle.std.specs.Option.{option_or}
use Rattle.std.proofs.lemmas.Bool.{or_parts, not-false}
use Rattle.std.proofs.lemmas.Option.{same_Some, none-some}
use Rattle.class_model.specs.declared.types.FieldRef.{FieldRef}
use Rattle.class_model.specs.declared.types.MethodRef.{MethodRef}
use Rattle.class_model.specs.declared.insn.Insn.{Insn}
use Rattle.class_model.specs.declared.insn.Insn.TheVariants as insn
use Rattle.class_model.specs.declared.class.CodeDef.{CodeDef}
use Rattle.class_model.specs.declared.class.FieldDef.{FieldDef}
use Rattle.class_model.specs.declared.class.ClassDef.{ClassDef}
use Rattle.set_lookups.specs.Above.{find_class}
use Rattle.set_lookups.specs.First.{first, first_from, holds_of}
use Rattle.set_lookups.specs.Lookups.{has_field, field_at, resolve_field, resolve_method}
use Rattle.set_lookups.specs.Needed.{missing, if_missing, needed, one_name, desc_names, field_names, handler_names, row_names, insn_names, code_names, method_names}
use Rattle.set_lookups.proofs.Lists.{at_left, at_right}
use Rattle.class_set.specs.Closed.{Closed}
use Rattle.class_set.specs.References.{class_insns, code_insns, if_unresolved, lacks_field, lacks_method, unresolved}
use Rattle.class_set.specs.Calls.{finds_field, if_wrong_kind, is_wrong, wrong_kind}
use Rattle.run_state.specs.SetLooks.{is_static}
use Rattle.look_laws.proofs.Alike.{placed}
use Rattle.look_laws.proofs.FieldMembers.{field_member}
use Rattle.program_links.specs.Ready.{FindsField, FindsMethod, IsReady}

-- nothing is told along a list
both_none : {A : Type 0} (a b : Option A) → option_or a b ≡ None → (a ≡ None) × (b ≡ None)
both_none None b h = (refl, h)
both_none (Some x) b h = absurd cc

pub none_along : {A B : Type 0} (f : A → Option B) (xs : List A) (k : ℕ) (x : A) → first f xs ≡ None → slice_get xs k ≡ Some x → f x ≡ None
unfolding first
none_along f [] k x h e = absurd (none-some x e)
none_along f (y ∷ xs) zero x h e = ap f (sym (same_Some y x e)) ∙ (both_none (f y) (first f xs) h).0
none_along f (y ∷ xs) (suc k) x h e = none_along f xs k x (both_none (f y) (first f xs) h).1 e

none_each : {A B : Type 0} (f : ℕ → A → Option B) (at : ℕ) (xs : List A) (k : ℕ) (x : A) → first_from f at xs ≡ None → slice_get xs k ≡ Some x → f (at + k) x ≡ None
unfolding first_from
none_each f at [] k x h e = absurd (none-some x e)
none_each f at (y ∷ xs) zero x h e =
    let n : at + 0 ≡ at = omega arith in
    ap (λ m. f m x) n ∙ ap (f at) (sym (same_Some y x e)) ∙ (both_none (f at y) (first_from f (at + 1) xs) h).0
none_each f at (y ∷ xs) (suc k) x h e =
    let n : at + suc k ≡ at + 1 + k = omega arith in
    ap (λ m. f m x) n ∙ none_each f (at + 1) xs k x (both_none (f at y) (first_from f (at + 1) xs) h).1 e

pub in_flat : {A B : Type 0} (f : A → List B) (xs : List A) (j k : ℕ) (x : A) (y : B) → slice_get xs j ≡ Some x → slice_get (f x) k ≡ Some y → (l : ℕ) × (slice_get (flat_map f xs) l ≡ Some y)
in_flat f [] j k x y e at = absurd (none-some x e)
in_flat f (z ∷ xs) zero k x y e at = (k, at_left (f z) (flat_map f xs) k y (ap (λ w. slice_get (f w) k) (same_Some z x e) ∙ at))
in_flat f (z ∷ xs) (suc j) k x y e at = let rest = in_flat f xs j k x y e at in at_right (f z) (flat_map f xs) rest.0 y rest.1

-- an instruction of a method of a class
pub record IsIn (set : List ClassDef) (number : ℕ) (i : Insn) : Type 0 where
  pub class : ClassDef
  pub there : slice_get set number ≡ Some class
  pub place : ℕ
  pub at : slice_get (class_insns class) place ≡ Some i

pub told_by : (b : Bool) (text : List ℕ) → cond b (Some text) None ≡ None → b ≡ false
told_by true text h = absurd cc
told_by false text h = refl

pub found_by : {A : Type 0} (found : Option A) → is_none found ≡ false → (x : A) × (found ≡ Some x)
found_by None h = absurd cc
found_by (Some x) h = (x, refl)

resolved : (set : List ClassDef) (number : ℕ) (i : Insn) → Closed set → IsIn set number i → if_unresolved set i ≡ None
unfolding unresolved
resolved set number i closed at =
    none_along (if_unresolved set) (class_insns at.class) at.place i (none_each (λ current class. first (if_unresolved set) (class_insns class)) 0 set number at.class closed.resolved at.there) at.at

right : (set : List ClassDef) (number : ℕ) (i : Insn) → Closed set → IsIn set number i → is_wrong set number i ≡ false
unfolding wrong_kind
right set number i closed at =
    let z : 0 + number ≡ number = omega arith in
    ap (λ n. is_wrong set n i) (sym z)
    ∙ told_by (is_wrong set (0 + number) i) _
    (none_along (if_wrong_kind set (0 + number)) (class_insns at.class) at.place i (none_each (λ current class. first (if_wrong_kind set current) (class_insns class)) 0 set number at.class closed.of_right_kind at.there) at.at)

-- fields
field_by : (set : List ClassDef) (ref : FieldRef) (test : FieldDef → Bool) (static : Bool) → lacks_field set ref ≡ None → finds_field set ref test ≡ false → ((d : FieldDef) → test d ≡ false → is_static d.flags ≡ static) → FindsField set ref static
field_by set ref test static none right kind =
    let found = found_by (resolve_field set ref) (told_by (is_none (resolve_field set ref)) _ none) in
    let m = found.0 in
    let is = field_member set ref m found.1 in
    let p = placed (has_field ref) is.class.fields m.index is.place in
    let at : option_and_then (field_at set) (resolve_field set ref) ≡ Some p.item =
    ap (option_and_then (field_at set)) found.1 ∙ ap (option_and_then (λ (class : ClassDef). slice_get class.fields m.index)) is.there ∙ p.at in
    record {
      member = m;
      class = is.class;
      field = p.item;
      resolves = found.1;
      there = is.there;
      at = p.at;
      kind = kind p.item (sym (ap (holds_of test) at) ∙ right);
    }

-- methods
method_by : (set : List ClassDef) (ref : MethodRef) → lacks_method set ref ≡ None → FindsMethod set ref
method_by set ref none = found_by (resolve_method set ref) (told_by (is_none (resolve_method set ref)) _ none)

-- names
-- where an item of joined lists is
pub record IsOf {A B : Type 0} (f : A → List B) (xs : List A) (y : B) : Type 0 where
  pub item : A
  pub place : ℕ
  pub at : slice_get xs place ≡ Some item
  pub within : ℕ
  pub is : slice_get (f item) within ≡ Some y

later : {A B : Type 0} (f : A → List B) (x : A) (xs : List A) (y : B) → IsOf f xs y → IsOf f (x ∷ xs) y
later f x xs y o = record { item = o.item; place = suc o.place; at = o.at; within = o.within; is = o.is }

split : {A B : Type 0} (f : A → List B) (x : A) (xs : List A) (front : List B) (k l : ℕ) (y : B) → ((j : ℕ) → slice_get front j ≡ Some y → (m : ℕ) × (slice_get (f x) m ≡ Some y)) → (IsOf f xs y → IsOf f (x ∷ xs) y) → slice_get (front ++ flat_map f xs) l ≡ Some y → ((j : ℕ) → slice_get (flat_map f xs) j ≡ Some y → IsOf f xs y) → IsOf f (x ∷ xs) y
split f x xs [] k l y here more h rest = more (rest l h)
split f x xs (z ∷ front) k zero y here more h rest = let m = here 0 h in record { item = x; place = 0; at = refl; within = m.0; is = m.1 }
split f x xs (z ∷ front) k (suc l) y here more h rest = split f x xs front k l y (λ j at. here (suc j) at) more h rest

of_flat : {A B : Type 0} (f : A → List B) (xs : List A) (l : ℕ) (y : B) → slice_get (flat_map f xs) l ≡ Some y → IsOf f xs y
of_flat f [] l y h = absurd (none-some y h)
of_flat f (x ∷ xs) l y h = split f x xs (f x) 0 l y (λ j at. (j, at)) (later f x xs y) h (λ j at. of_flat f xs j y at)

needed_name : (set : List ClassDef) (number : ℕ) (i : Insn) (name : List ℕ) → IsIn set number i → slice_get (insn_names i) 0 ≡ Some name → (l : ℕ) × (slice_get (flat_map needed set) l ≡ Some name)
needed_name set number i name at first =
    let method = of_flat code_insns at.class.methods at.place i at.at in
    let code = of_flat (λ (c : CodeDef). c.insns) (option_to_list method.item.code) method.within i method.is in
    let named = in_flat insn_names code.item.insns code.within 0 i name code.is first in
    let of_code = at_left (flat_map insn_names code.item.insns) (flat_map handler_names code.item.handlers ++ flat_map row_names code.item.frames) named.0 name named.1 in
    let of_codes = in_flat code_names (option_to_list method.item.code) code.place named.0 code.item name code.at of_code in
    let of_method = at_right (desc_names method.item.desc) (flat_map code_names (option_to_list method.item.code)) of_codes.0 name of_codes.1 in
    let of_methods = in_flat method_names at.class.methods method.place of_method.0 method.item name method.at of_method.1 in
    let more = at_right (flat_map field_names at.class.fields) (flat_map method_names at.class.methods) of_methods.0 name of_methods.1 in
    let upper = at_right (flat_map one_name at.class.interfaces) (flat_map field_names at.class.fields ++ flat_map method_names at.class.methods) more.0 name more.1 in
    let all = at_right (flat_map one_name (option_to_list at.class.super_name)) (flat_map one_name at.class.interfaces ++ (flat_map field_names at.class.fields ++ flat_map method_names at.class.methods)) upper.0 name upper.1 in
    in_flat needed set number all.0 at.class name at.there all.1

name_found : (set : List ClassDef) (number : ℕ) (i : Insn) (name : List ℕ) → Closed set → IsIn set number i → slice_get (insn_names i) 0 ≡ Some name → (n : ℕ) × (find_class set name ≡ Some n)
unfolding missing
name_found set number i name closed at first =
    let place = needed_name set number i name at first in
    found_by (find_class set name) (told_by (is_none (find_class set name)) name (none_along (if_missing set) (flat_map needed set) place.0 name closed.present place.1))

-- each instruction is ready to be linked
pub ready : (set : List ClassDef) (number : ℕ) (i : Insn) → Closed set → IsIn set number i → IsReady set i
unfolding if_unresolved is_wrong
ready set number (insn.GetStatic f) closed at = field_by set f _ true (resolved set number (insn.GetStatic f) closed at) (right set number (insn.GetStatic f) closed at) (λ d h. not-false (is_static d.flags) h)
ready set number (insn.PutStatic f) closed at =
    field_by set f _ true (resolved set number (insn.PutStatic f) closed at) (right set number (insn.PutStatic f) closed at) (λ d h. not-false (is_static d.flags) (or_parts (not (is_static d.flags)) (is_some d.constant) h).0)
ready set number (insn.GetField f) closed at = field_by set f _ false (resolved set number (insn.GetField f) closed at) (right set number (insn.GetField f) closed at) (λ d h. h)
ready set number (insn.PutField f) closed at = field_by set f _ false (resolved set number (insn.PutField f) closed at) (right set number (insn.PutField f) closed at) (λ d h. h)
ready set number (insn.Invoke kind ref) closed at = method_by set ref (resolved set number (insn.Invoke kind ref) closed at)
ready set number (insn.New class) closed at = name_found set number (insn.New class) class closed at refl
ready set number insn.Nop closed at = tt
ready set number insn.PushNull closed at = tt
ready set number (insn.PushInt a) closed at = tt
ready set number (insn.PushLong a) closed at = tt
ready set number (insn.PushString a) closed at = tt
ready set number (insn.Load a b) closed at = tt
ready set number (insn.Store a b) closed at = tt
ready set number (insn.ArrayLoad a) closed at = tt
ready set number (insn.ArrayStore a) closed at = tt
ready set number (insn.Stack a) closed at = tt
ready set number (insn.Bin a b) closed at = tt
ready set number (insn.Shift a b) closed at = tt
ready set number (insn.Neg a) closed at = tt
ready set number (insn.Iinc a b) closed at = tt
ready set number (insn.Convert a) closed at = tt
ready set number insn.Lcmp closed at = tt
ready set number (insn.If a b) closed at = tt
ready set number (insn.IfInt a b) closed at = tt
ready set number (insn.IfRef a b) closed at = tt
ready set number (insn.IfNull a b) closed at = tt
ready set number (insn.Goto a) closed at = tt
ready set number (insn.TableSwitch a b d) closed at = tt
ready set number (insn.LookupSwitch a b) closed at = tt
ready set number (insn.Return a) closed at = tt
ready set number (insn.NewArray a) closed at = tt
ready set number (insn.ANewArray a) closed at = tt
ready set number insn.ArrayLength closed at = tt
ready set number insn.Athrow closed at = tt
ready set number (insn.CheckCast a) closed at = tt
ready set number (insn.InstanceOf a) closed at = tt
ready set number (insn.MultiNewArray a b) closed at = tt
