-- Tables of members.
use Rattle.std.proofs.Common.{◌≡◌, ◌∙◌, ℕ, ◌+◌, ◌<◌, ◌≤◌, ◌≢◌, ◌⊎◌, inl, inr, ◌&&◌, Bool, true, false, cond, eqb, eqb-true, eq-eqb, List, [], ◌∷◌, ◌++◌, length, drop, take, get_or, refl, sym, ap, subst, Option, Some, None, arith}
use Rattle.std.specs.Prelude.{slice_get, position, option_map, option_and_then}
use Rattle.std.specs.Option.{option_or}
use Rattle.std.specs.List.{position_from}
use Rattle.std.proofs.lemmas.Bool.{cases_lt}
use Rattle.std.proofs.lemmas.List.{at_drop_more, take_more, length-take-le}
use Rattle.std.proofs.lemmas.Option.{slice_get_past}
use Rattle.std.proofs.lemmas.Iterator.Adapters.{position_from-zero}
use Rattle.class_model.specs.declared.types.JType.{JType}
use Rattle.class_model.specs.declared.types.MethodDesc.{MethodDesc}
use Rattle.class_model.specs.declared.types.FieldRef.{FieldRef}
use Rattle.class_model.specs.declared.class.FieldDef.{FieldDef}
use Rattle.class_model.specs.declared.class.MethodDef.{MethodDef}
use Rattle.class_model.specs.declared.class.ClassDef.{ClassDef}
use Rattle.set_lookups.specs.declared.members.Wanted.{Wanted}
use Rattle.set_lookups.specs.declared.members.Wanted.TheVariants.{Any, Inherited, Final}
use Rattle.set_lookups.specs.declared.member_key.MemberKey.{MemberKey}
use Rattle.set_lookups.specs.Above.{same_name}
use Rattle.set_lookups.specs.Same.{same_desc}
use Rattle.set_lookups.specs.Lookups.{Member, member_of, declared, method_here, declared_field, field_here}
use Rattle.set_lookups.specs.Members.{Parts, desc_of, parts_of, parts_of_field, key_parts, same_rest, same_parts, place_in, is_method_of, is_field_of, method_place, field_place}
use Rattle.set_lookups.specs.MemberKeys.{wanted_is}
use Rattle.set_lookups.specs.SameTypes.{one_test}
use Rattle.set_lookups.specs.Wanted.{passes, same_wanted}
use Rattle.set_lookups.proofs.Placing.{kept_at, last_at, past_at, same_or}

pub key_of : Parts → MemberKey
key_of parts = record { class = parts.class; wanted = parts.wanted; name = parts.name; desc = desc_of parts }

pub put_at : (old new : List (MemberKey × ℕ)) (key : MemberKey) (place : ℕ) (parts : Parts) → place_in new (key_parts (key_of parts)) ≡ cond (same_parts (key_parts key) (key_parts (key_of parts))) (Some place) (place_in old (key_parts (key_of parts))) → place_in new parts ≡ cond (same_parts (key_parts key) parts) (Some place) (place_in old parts)
unfolding key_of
put_at old new key place parts h = h

and_none : (a b : Bool) → b ≡ false → (a && b) ≡ false
and_none true b h = h
and_none false b h = refl

and_all : (a b : Bool) → b ≡ true → a ≡ (a && b)
and_all true b h = sym h
and_all false b h = refl

-- a method that a look-up does not take
not_by : (wanted : Wanted) (method : MethodDef) (parts : Parts) (b : Bool) → same_wanted wanted parts.wanted ≡ b → passes wanted method ≡ false → (b && is_method_of method parts) ≡ false
not_by wanted method parts true e h =
    and_none (same_name method.name parts.name && same_desc method.desc (desc_of parts)) (passes parts.wanted method) (ap (λ w. passes w method) (sym (wanted_is wanted parts.wanted e)) ∙ h)
not_by wanted method parts false e h = refl

cond_none : (a b : Bool) (x y : Option ℕ) → b ≡ false → y ≡ cond (a && b) x y
cond_none true b x y h = ap (λ c. cond c x y) (sym h)
cond_none false b x y h = refl

pub not_taken : (class : ℕ) (wanted : Wanted) (method : MethodDef) (place : ℕ) (entries : List (MemberKey × ℕ)) (parts : Parts) → passes wanted method ≡ false → place_in entries parts ≡ cond (eqb class parts.class && (same_wanted wanted parts.wanted && is_method_of method parts)) (Some place) (place_in entries parts)
not_taken class wanted method place entries parts h =
    cond_none (eqb class parts.class) (same_wanted wanted parts.wanted && is_method_of method parts) (Some place) (place_in entries parts) (not_by wanted method parts (same_wanted wanted parts.wanted) refl h)

-- a method that it takes
rest_of : List ℕ → MethodDesc → Parts → Bool
rest_of name desc parts = same_name name parts.name && same_desc desc (desc_of parts)

taken_by : (wanted : Wanted) (method : MethodDef) (parts : Parts) (b : Bool) → same_wanted wanted parts.wanted ≡ b → passes wanted method ≡ true → (b && rest_of method.name method.desc parts) ≡ (b && is_method_of method parts)
unfolding rest_of
taken_by wanted method parts true e h = and_all (same_name method.name parts.name && same_desc method.desc (desc_of parts)) (passes parts.wanted method) (ap (λ w. passes w method) (sym (wanted_is wanted parts.wanted e)) ∙ h)
taken_by wanted method parts false e h = refl

pub taken : (class : ℕ) (wanted : Wanted) (method : MethodDef) (place : ℕ) (name : List ℕ) (desc : MethodDesc) (old : Option ℕ) (parts : Parts) → name ≡ method.name → desc ≡ method.desc → passes wanted method ≡ true → cond (same_parts (parts_of class wanted name desc) parts) (Some place) old ≡ cond (eqb class parts.class && (same_wanted wanted parts.wanted && is_method_of method parts)) (Some place) old
unfolding rest_of
taken class wanted method place name desc old parts e f h =
    let all = λ (b : Bool). cond (eqb class parts.class && b) (Some place) old in
    ap (λ n. all (same_wanted wanted parts.wanted && rest_of n desc parts)) e ∙ ap (λ d. all (same_wanted wanted parts.wanted && rest_of method.name d parts)) f
    ∙ ap all (taken_by wanted method parts (same_wanted wanted parts.wanted) refl h)

-- the three kinds in turn
pub one_kind : (wanted : Wanted) (here is : Bool) (x y : Option ℕ) → cond (here && (same_wanted Final wanted && is)) x (cond (here && (same_wanted Inherited wanted && is)) x (cond (here && (same_wanted Any wanted && is)) x y)) ≡ cond (here && is) x y
one_kind Any false is x y = refl
one_kind Any true is x y = refl
one_kind Inherited false is x y = refl
one_kind Inherited true true x y = refl
one_kind Inherited true false x y = refl
one_kind Final false is x y = refl
one_kind Final true true x y = refl
one_kind Final true false x y = refl

-- a field
pub field_put : (class : ℕ) (field : FieldDef) (place : ℕ) (name : List ℕ) (params : List JType) (ty : JType) (old : Option ℕ) (parts : Parts) → name ≡ field.name → params ≡ [] → ty ≡ field.ty → cond (same_parts (parts_of class Any name (record { params = params; result = Some ty })) parts) (Some place) old ≡ cond (eqb class parts.class && is_field_of field parts) (Some place) old
field_put class field place name params ty old parts e none f =
    let all = λ (n : List ℕ) (ps : List JType) (t : JType). cond (same_parts (parts_of class Any n (record { params = ps; result = Some t })) parts) (Some place) old in
    ap (λ n. all n params ty) e ∙ ap (λ ps. all field.name ps ty) none ∙ ap (λ t. all field.name [] t) f

-- the members of a class from the last one on
put_by : (here is : Bool) (place : ℕ) (rest old : Option ℕ) → cond (here && is) (Some place) (option_or (cond here rest None) old) ≡ option_or (cond here (cond is (Some place) rest) None) old
put_by true true place rest old = refl
put_by true false place rest old = refl
put_by false is place rest old = refl

pub put_more : {A : Type 0} (is : A → Bool) (here : Bool) (members : List A) (at before : ℕ) (member : A) (now table old : Option ℕ) → at + 1 ≡ before → at < length members → member ≡ get_or members at member → now ≡ cond (here && is member) (Some at) table → table ≡ option_or (cond here (position_from is before (drop before members)) None) old → now ≡ option_or (cond here (position_from is at (drop at members)) None) old
put_more is here members at before member now table old next lt at_is e was =
    let rest = position_from is before (drop before members) in
    e ∙ ap (λ t. cond (here && is member) (Some at) t) was ∙ put_by here (is member) at rest old
    ∙ ap (λ m. option_or (cond here (cond (is m) (Some at) rest) None) old) at_is
    ∙ ap (λ n. option_or (cond here (cond (is (get_or members at member)) (Some at) (position_from is n (drop n members))) None) old) (sym next)
    ∙ sym (ap (λ p. option_or (cond here p None) old) (at_drop_more (position_from is at) members at member lt))

pub put_all : {A : Type 0} (is : A → Bool) (here : Bool) (members : List A) (at : ℕ) (old : Option ℕ) → at ≡ 0 → option_or (cond here (position_from is at (drop at members)) None) old ≡ option_or (cond here (position is members) None) old
put_all is here members at old e =
    ap (λ n. option_or (cond here (position_from is n (drop n members)) None) old) e ∙ ap (λ p. option_or (cond here p None) old) (sym (position_from-zero is members))

pub put_none : {A : Type 0} (is : A → Bool) (here : Bool) (members : List A) (old : Option ℕ) → old ≡ option_or (cond here (position_from is (length members) (drop (length members) members)) None) old
put_none is true members old = ap (λ xs. option_or (position_from is (length members) xs) old) (sym (all_dropped members))
  where
    all_dropped : {A : Type 0} (xs : List A) → drop (length xs) xs ≡ []
    all_dropped [] = refl
    all_dropped (x ∷ xs) = all_dropped xs
put_none is false members old = refl

-- class after class
or_none : (a : Option ℕ) → option_or a None ≡ a
or_none None = refl
or_none (Some x) = refl

unlike : (a b : ℕ) → a ≢ b → eqb a b ≡ false
unlike a b ne = one_test (eqb a b) false (λ t. absurd (ne (eqb-true a b t))) (λ t. cc)

found_in : (g : ClassDef → Option ℕ) → List ClassDef → ℕ → Option ℕ
found_in g set at = option_and_then g (slice_get set at)

class_by : (g : ClassDef → Option ℕ) (before : List ClassDef) (class : ClassDef) (n at : ℕ) → length before ≡ n → ((at < n) ⊎ (n ≤ at)) → ((n ≡ at) ⊎ (at ≢ n)) → option_or (cond (eqb n at) (g class) None) (found_in g before at) ≡ found_in g (before ++ class ∷ []) at
unfolding found_in
class_by g before class n at e (inl below) other =
    ap (λ b. option_or (cond b (g class) None) (option_and_then g (slice_get before at))) (unlike n at (λ same. absurd (omega (arith, same, below))))
    ∙ ap (option_and_then g) (sym (kept_at before class at (omega (arith, e, below))))
class_by g before class n at e (inr past) (inl same) =
    ap (λ b. option_or (cond b (g class) None) (option_and_then g (slice_get before at))) (eq-eqb n at same)
    ∙ ap (λ r. option_or (g class) (option_and_then g r)) (slice_get_past before at (omega (arith, e, past))) ∙ or_none (g class)
    ∙ sym (ap (λ k. option_and_then g (slice_get (before ++ class ∷ []) k)) (sym same ∙ sym e) ∙ ap (option_and_then g) (last_at before class))
class_by g before class n at e (inr past) (inr other) =
    ap (λ b. option_or (cond b (g class) None) (option_and_then g (slice_get before at))) (unlike n at (λ same. other (sym same)))
    ∙ ap (option_and_then g) (slice_get_past before at (omega (arith, e, past))) ∙ ap (option_and_then g) (sym (past_at before class at (omega (arith, e, past, other))))

take_length : (set : List ClassDef) (n : ℕ) → n < length set → length (take n set) ≡ n
take_length set n lt = length-take-le n set (omega (arith, lt))

pub class_more : (g : ClassDef → Option ℕ) (set : List ClassDef) (n at : ℕ) (class : ClassDef) (now old : Option ℕ) → n < length set → class ≡ get_or set n class → now ≡ option_or (cond (eqb n at) (g class) None) old → old ≡ option_and_then g (slice_get (take n set) at) → now ≡ option_and_then g (slice_get (take (n + 1) set) at)
unfolding found_in
class_more g set n at class now old lt is e was =
    let whole = take_more set n class lt ∙ ap (λ c. take n set ++ c ∷ []) (sym is) in
    e ∙ ap (option_or (cond (eqb n at) (g class) None)) was ∙ class_by g (take n set) class n at (take_length set n lt) (cases_lt at n) (same_or n at) ∙ sym (ap (λ xs. option_and_then g (slice_get xs at)) whole)

-- what the look-ups of the definitions find
method_by : (name : List ℕ) (desc : MethodDesc) (wanted : Wanted) (at : ℕ) (class : Option ClassDef) → option_map (member_of at) (option_and_then (λ c. position (λ method. is_method_of method (parts_of at wanted name desc)) c.methods) class) ≡ method_here name desc (passes wanted) at class
method_by name desc wanted at None = refl
method_by name desc wanted at (Some class) = refl

pub method_found : (set : List ClassDef) (name : List ℕ) (desc : MethodDesc) (wanted : Wanted) (at : ℕ) → option_map (member_of at) (method_place set (parts_of at wanted name desc)) ≡ declared set name desc (passes wanted) at
method_found set name desc wanted at = method_by name desc wanted at (slice_get set at)

field_by : (target : FieldRef) (at : ℕ) (class : Option ClassDef) → option_map (member_of at) (option_and_then (λ c. position (λ field. is_field_of field (parts_of_field at target)) c.fields) class) ≡ field_here target at class
field_by target at None = refl
field_by target at (Some class) = refl

pub field_found : (set : List ClassDef) (target : FieldRef) (at : ℕ) → option_map (member_of at) (field_place set (parts_of_field at target)) ≡ declared_field set target at
field_found set target at = field_by target at (slice_get set at)
