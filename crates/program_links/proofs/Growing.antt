-- Lists that grow, so that what has a number keeps it.
use Rattle.std.proofs.Common.{◌≡◌, ◌∙◌, ℕ, ◌+◌, ◌-◌, zero, suc, Bool, true, false, cond, arith, ◌⊎◌, inl, inr, List, [], ◌∷◌, ◌++◌, refl, sym, ap, subst, Some, None}
use Rattle.std.specs.Prelude.{slice_get, position}
use Rattle.std.specs.List.{list_any}
use Rattle.indexmap.specs.IndexSet.{insert_key}
use Rattle.std.proofs.lemmas.Option.{same_Some, none-some}
use Rattle.class_model.specs.declared.types.BaseType.{BaseType}
use Rattle.class_model.specs.declared.types.JType.{JType}
use Rattle.run_state.specs.References.{element_type}
use Rattle.set_lookups.specs.Same.{same_type}
use Rattle.set_lookups.specs.SameTypes.{type_true, type_self}
use Rattle.set_lookups.proofs.Lists.{at_left}
use Rattle.program_links.specs.declared.keys.Selector.{Selector}
use Rattle.program_links.specs.Keys.{same_selector, selector_true}
use Rattle.look_laws.proofs.Alike.{placed}
use Rattle.program_links.specs.Numbers.{Numbers, Keeps, Grows, HasElement, HasElementOrSelf, AreElements}
use Rattle.program_links.proofs.Apart.{place_there}

pub kept : {A : Type 0} (xs : List A) → Keeps xs xs
kept xs k x h = h

pub kept_further : {A : Type 0} (xs ys zs : List A) → Keeps xs ys → Keeps ys zs → Keeps xs zs
kept_further xs ys zs f g k x h = g k x (f k x h)

pub kept_before : {A : Type 0} (xs ys : List A) → Keeps xs (xs ++ ys)
kept_before xs ys k x h = at_left xs ys k x h

kept_by : {A : Type 0} (b : Bool) (xs : List A) (x : A) → Keeps xs (cond b xs (xs ++ x ∷ []))
kept_by true xs x = kept xs
kept_by false xs x = kept_before xs (x ∷ [])

pub kept_insert : {A : Type 0} (test : A → A → Bool) (xs ys : List A) (x : A) → ys ≡ insert_key test xs x → Keeps xs ys
kept_insert test xs ys x e = subst (Keeps xs) (sym e) (kept_by (list_any (test x) xs) xs x)

pub grown_further : (a b c : Numbers) → Grows a b → Grows b c → Grows a c
grown_further a b c f g = record {
  types = kept_further a.types b.types c.types f.types g.types;
  texts = kept_further a.texts b.texts c.texts f.texts g.texts;
  selectors = kept_further a.selectors b.selectors c.selectors f.selectors g.selectors;
  calls = kept_further a.calls b.calls c.calls f.calls g.calls;
  tables = kept_further a.tables b.tables c.tables f.tables g.tables;
  rows = kept_further a.rows b.rows c.rows f.rows g.rows;
}

pub type_stored : (types : List JType) (n : ℕ) (key k : JType) → slice_get types n ≡ Some k → same_type key k ≡ true → slice_get types n ≡ Some key
type_stored types n key k at h = at ∙ ap Some (sym (type_true key k h))

-- the elements of an array are there
with_depth : ℕ → JType → JType
with_depth depth ty = record { depth = depth; base = ty.base }

flat_element : (ty : JType) → ty.depth ≡ 0 → element_type ty ≡ ty
unfolding with_depth
flat_element ty e = let d : ty.depth - 1 ≡ ty.depth = omega (arith, e) in ap (λ depth. with_depth depth ty) d

in_appended : (types : List JType) (key ty : JType) (n : ℕ) → slice_get (types ++ key ∷ []) n ≡ Some ty → (slice_get types n ≡ Some ty) ⊎ (ty ≡ key)
in_appended [] key ty zero h = inr (sym (same_Some key ty h))
in_appended [] key ty (suc n) h = absurd (none-some ty h)
in_appended (x ∷ types) key ty zero h = inl h
in_appended (x ∷ types) key ty (suc n) h = in_appended types key ty n h

at_last : (types : List JType) (key : JType) → (m : ℕ) × (slice_get (types ++ key ∷ []) m ≡ Some key)
at_last [] key = (0, refl)
at_last (x ∷ types) key = let rest = at_last types key in (suc rest.0, rest.1)

own_element : (types : List JType) (key : JType) → HasElementOrSelf types key → HasElement (types ++ key ∷ []) key
own_element types key (inl flat) = let last = at_last types key in (last.0, last.1 ∙ ap Some (sym (flat_element key flat)))
own_element types key (inr has) = (has.0, kept_before types (key ∷ []) has.0 (element_type key) has.1)

element_by : (types : List JType) (key ty : JType) (n : ℕ) → (slice_get types n ≡ Some ty) ⊎ (ty ≡ key) → AreElements types → HasElementOrSelf types key → HasElement (types ++ key ∷ []) ty
element_by types key ty n (inl at) are has = let old = are n ty at in (old.0, kept_before types (key ∷ []) old.0 (element_type ty) old.1)
element_by types key ty n (inr e) are has = subst (HasElement (types ++ key ∷ [])) (sym e) (own_element types key has)

elements_by : (b : Bool) (types : List JType) (key : JType) → AreElements types → HasElementOrSelf types key → AreElements (cond b types (types ++ key ∷ []))
elements_by true types key are has = are
elements_by false types key are has = λ n ty at. element_by types key ty n (in_appended types key ty n at) are has

pub elements_more : (types new : List JType) (key : JType) → new ≡ insert_key same_type types key → AreElements types → HasElementOrSelf types key → AreElements new
elements_more types new key e are has = subst AreElements (sym e) (elements_by (list_any (same_type key) types) types key are has)

pub elements_kept : (types new : List JType) (key : JType) → (new ≡ types) ⊎ (new ≡ insert_key same_type types key) → AreElements types → HasElementOrSelf types key → AreElements new
elements_kept types new key (inl e) are has = subst AreElements (sym e) are
elements_kept types new key (inr e) are has = elements_more types new key e are has

pub selector_stored : (selectors : List Selector) (n : ℕ) (key k : Selector) → slice_get selectors n ≡ Some k → same_selector key k ≡ true → slice_get selectors n ≡ Some key
selector_stored selectors n key k at h = at ∙ ap Some (sym (selector_true key k h))

-- one dimension more
pub one_more : (types : List JType) (n : ℕ) (ty key : JType) → slice_get types n ≡ Some ty → key.depth - 1 ≡ ty.depth → key.base ≡ ty.base → HasElementOrSelf types key
unfolding with_depth
one_more types n ty key at d b =
    let same : element_type key ≡ ty = ap (λ depth. with_depth depth key) d ∙ ap (λ base. record { depth = ty.depth; base = base }) b in
    inr (n, at ∙ ap Some (sym same))

pub array_of_one : (types : List JType) (n below depth : ℕ) (of : BaseType) → slice_get types n ≡ Some (record { depth = below; base = of }) → depth ≡ below + 1 → HasElementOrSelf types (record { depth = depth; base = of })
array_of_one types n below depth of at e =
    let d : depth - 1 ≡ below = omega (arith, e) in
    one_more types n (record { depth = below; base = of }) (record { depth = depth; base = of }) at d refl

-- the elements of a type that is there
pub element_missing : (types : List JType) (n : ℕ) (ty key : JType) → AreElements types → slice_get types n ≡ Some ty → key ≡ element_type ty → position (same_type key) types ≡ None → ⊥
element_missing types n ty key are at e none =
    let has = are n ty at in
    let p = place_there (same_type key) types has.0 (element_type ty) has.1 (ap (same_type key) (sym e) ∙ type_self key) in
    none-some p.0 (sym none ∙ p.1)

pub element_found : (types : List JType) (m : ℕ) (ty key : JType) → key ≡ element_type ty → Some m ≡ position (same_type key) types → slice_get types m ≡ Some (element_type ty)
element_found types m ty key e found =
    let p = placed (same_type key) types m (sym found) in
    p.at ∙ ap Some (sym (type_true key p.item p.passes)) ∙ ap Some e
