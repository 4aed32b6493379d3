-- What stands beside the entries of a pool.
use Rattle.std.proofs.Common.{◌≡◌, ◌≢◌, ℕ, suc, ◌+◌, ◌-◌, ◌<◌, Bool, true, false, cond, eqb, List, [], ◌∷◌, ◌++◌, length, map, take, get_or, Option, Some, None, Result, Ok, Err, refl, sym, ap, subst, ◌∙◌}
use Rattle.std.specs.Prelude.{option_map, option_and_then, slice_get}
use Rattle.std.proofs.lemmas.Bool.{eqb-false, eqb-true}
use Rattle.std.proofs.lemmas.Option.{slice_get-map, slice_get-get_or}
use Rattle.std.proofs.lemmas.List.{map_more}
use Rattle.class_input.specs.declared.bad_class.BadKind.TheVariants.{Text}
use Rattle.class_input.specs.declared.bad_class.BadClass.{BadClass}
use Rattle.class_input.specs.declared.bad_class.BadClass.TheVariants.{Bad, Memory}
use Rattle.class_input.specs.Reading.{Fault, Fails, judging}
use Rattle.const_pool.specs.declared.entry.Entry.{Entry}
use Rattle.const_pool.specs.Pool.{Pool, entry_at, slot_entry, as_text}
use Rattle.const_pool.specs.PoolReading.{named, found, of_kind}
use Rattle.class_names.specs.declared.named_pool.Spelled.{Spelled}
use Rattle.class_names.specs.Steps.{fit}
use Rattle.class_names.specs.NameReading.{units_in, text_at}
use Rattle.class_names.specs.Spelled.{spelled, spelled_entry, AreSpelled, IsSpelled}
use Rattle.class_names.proofs.StepLaws.{fine}

-- ---- the list of what is spelled, and the entry of an index

slot_spelled : (slot : Option (Option Entry)) (o : Option (Option Spelled)) → o ≡ option_map spelled_entry slot → (t : Option Spelled) → o ≡ Some t → t ≡ spelled_entry (slot_entry slot)
slot_spelled None o is t h = absurd cc
slot_spelled (Some e) o is t h = cc

slot_absent : (slot : Option (Option Entry)) (o : Option (Option Spelled)) → o ≡ option_map spelled_entry slot → o ≡ None → spelled_entry (slot_entry slot) ≡ None
slot_absent None o is h = refl
slot_absent (Some e) o is h = absurd cc

beside_at : (p : Pool) (texts : List (Option Spelled)) (i : ℕ) → AreSpelled p texts → slice_get texts i ≡ option_map spelled_entry (slice_get p i)
beside_at p texts i are = ap (λ (z : List (Option Spelled)). slice_get z i) are ∙ slice_get-map spelled_entry p i

entry_of : (p : Pool) (k : ℕ) → k ≢ 0 → entry_at p k ≡ slot_entry (slice_get p (k - 1))
entry_of p k some = by (eqb k 0) refl
  where
    by : (b : Bool) → eqb k 0 ≡ b → entry_at p k ≡ slot_entry (slice_get p (k - 1))
    by true is = absurd (some (eqb-true k 0 is))
    by false is = rw is refl

pub beside : (p : Pool) (texts : List (Option Spelled)) (k : ℕ) (t : Option Spelled) → AreSpelled p texts → k ≢ 0 → slice_get texts (k - 1) ≡ Some t → t ≡ spelled_entry (entry_at p k)
beside p texts k t are some h = slot_spelled (slice_get p (k - 1)) (slice_get texts (k - 1)) (beside_at p texts (k - 1) are) t h ∙ ap spelled_entry (sym (entry_of p k some))

pub nothing_beside : (p : Pool) (texts : List (Option Spelled)) (k : ℕ) → AreSpelled p texts → k ≢ 0 → slice_get texts (k - 1) ≡ None → spelled_entry (entry_at p k) ≡ None
nothing_beside p texts k are some h = ap spelled_entry (entry_of p k some) ∙ slot_absent (slice_get p (k - 1)) (slice_get texts (k - 1)) (beside_at p texts (k - 1) are) h

pub nothing_at_0 : (p : Pool) → spelled_entry (entry_at p 0) ≡ None
nothing_at_0 p = refl

pub one_more : (p : Pool) (at : ℕ) (texts : List (Option Spelled)) (t : Option Spelled) → at < length p → ((e : Option Entry) → slice_get p at ≡ Some e → t ≡ spelled_entry e) → texts ≡ map spelled_entry (take at p) → texts ++ t ∷ [] ≡ map spelled_entry (take (at + 1) p)
one_more p at texts t low is so_far =
    let last = is (get_or p at None) (slice_get-get_or p at None low) in
    ap (λ (z : List (Option Spelled)). z ++ t ∷ []) so_far ∙ ap (λ (z : Option Spelled). map spelled_entry (take at p) ++ z ∷ []) last ∙ sym (map_more spelled_entry p at None low)

-- ---- what is spelled, and the reading of a text

abbrev text_of : ℕ → List ℕ → Result (List ℕ) Fault
text_of place bytes = fit place Text (units_in bytes)

by_units : (u : Option (List ℕ)) (place : ℕ) (t : Spelled) → option_map spelled u ≡ Some t → (fit place Text u ≡ fine t.name) × IsSpelled t
by_units None place t h = absurd cc
by_units (Some units) place t h = let e : spelled units ≡ t = cc in subst (λ (z : Spelled). (fit place Text (Some units) ≡ fine z.name) × IsSpelled z) e (refl, refl)

by_view : (v : Option (List ℕ)) (place k : ℕ) (t : Spelled) → option_map spelled (option_and_then units_in v) ≡ Some t → (judging (of_kind place k v) (text_of place) ≡ fine t.name) × IsSpelled t
by_view None place k t h = absurd cc
by_view (Some bytes) place k t h = by_units (units_in bytes) place t h

by_entry : (o : Option Entry) (place k : ℕ) (t : Spelled) → spelled_entry o ≡ Some t → (judging (found as_text place k o) (text_of place) ≡ fine t.name) × IsSpelled t
by_entry None place k t h = absurd cc
by_entry (Some e) place k t h = by_view (as_text e) place k t h

both : (p : Pool) (place k : ℕ) (t : Spelled) → spelled_entry (entry_at p k) ≡ Some t → (text_at p place k ≡ fine t.name) × IsSpelled t
unfolding text_at named
both p place k t h = by_entry (entry_at p k) place k t h

pub spelled_text : (p : Pool) (place k : ℕ) (t : Spelled) → spelled_entry (entry_at p k) ≡ Some t → text_at p place k ≡ fine t.name
spelled_text p place k t h = (both p place k t h).0

pub is_spelled : (p : Pool) (k : ℕ) (t : Spelled) → spelled_entry (entry_at p k) ≡ Some t → IsSpelled t
is_spelled p k t h = (both p 0 k t h).1

-- ---- a text that spells nothing

fails_on : (e : BadClass) (r : Result (List ℕ) Fault) (f : List ℕ → Result (List ℕ) Fault) → Fails e r → Fails e (judging r f)
fails_on Memory r f h = tt
fails_on (Bad place kind) (Ok bytes) f h = absurd cc
fails_on (Bad place kind) (Err fault) f h = h

pub refused_text : (p : Pool) (place k : ℕ) (e : BadClass) → Fails e (named as_text p place k) → Fails e (text_at p place k)
unfolding text_at
refused_text p place k e h = fails_on e (named as_text p place k) (text_of place) h

abbrev pub wrong_text : ℕ → Result (List ℕ) Fault
wrong_text place = Err (record { place = place; kind = Text })

no_units : (u : Option (List ℕ)) (place : ℕ) → option_map spelled u ≡ None → fit place Text u ≡ wrong_text place
no_units None place h = refl
no_units (Some units) place h = absurd cc

no_view : (v : Option (List ℕ)) (place k : ℕ) (bytes : List ℕ) → option_map spelled (option_and_then units_in v) ≡ None → of_kind place k v ≡ fine bytes → judging (of_kind place k v) (text_of place) ≡ wrong_text place
no_view None place k bytes h g = absurd cc
no_view (Some text) place k bytes h g = no_units (units_in text) place h

no_entry : (o : Option Entry) (place k : ℕ) (bytes : List ℕ) → spelled_entry o ≡ None → found as_text place k o ≡ fine bytes → judging (found as_text place k o) (text_of place) ≡ wrong_text place
no_entry None place k bytes h g = absurd cc
no_entry (Some e) place k bytes h g = no_view (as_text e) place k bytes h g

pub not_spelled : (p : Pool) (place k : ℕ) (bytes : List ℕ) → spelled_entry (entry_at p k) ≡ None → named as_text p place k ≡ fine bytes → text_at p place k ≡ wrong_text place
unfolding text_at named
not_spelled p place k bytes h g = no_entry (entry_at p k) place k bytes h g
