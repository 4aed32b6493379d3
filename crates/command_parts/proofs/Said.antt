-- A name that is written unit by unit.
use Rattle.std.proofs.Common.{◌∙◌, ℕ, ◌+◌, ◌<◌, ◌≤◌, List, ◌++◌, length, get_or, take, Option, Some, None, sym, ap, subst}
use Rattle.std.proofs.lemmas.List.{take_more, take_all, flat_map_more}
use Rattle.modified_utf8.specs.Text.{unit_bytes, text_bytes}
use Rattle.command_parts.specs.Told.{Took}

-- one unit more
pub took_more : (old mid new : Option (List ℕ)) (units : List ℕ) (i : ℕ) → i < length units → Took old mid (text_bytes (take i units)) → Took mid new (unit_bytes (get_or units i 0))
    → Took old new (text_bytes (take (i + 1) units))
took_more None mid new units i within so_far more = tt
took_more (Some a) None new units i within so_far more = absurd so_far
took_more (Some a) (Some b) None units i within so_far more = absurd more
took_more (Some a) (Some b) (Some c) units i within so_far more =
    more ∙ ap (λ (bytes : List ℕ). bytes ++ unit_bytes (get_or units i 0)) so_far ∙ flat_map_more unit_bytes a (take i units) (get_or units i 0)
    ∙ ap (λ (us : List ℕ). a ++ text_bytes us) (sym (take_more units i 0 within))

pub took_all : (old new : Option (List ℕ)) (units : List ℕ) (i : ℕ) → length units ≤ i → Took old new (text_bytes (take i units)) → Took old new (text_bytes units)
took_all old new units i past so_far = subst (λ (us : List ℕ). Took old new (text_bytes us)) (take_all i units past) so_far
