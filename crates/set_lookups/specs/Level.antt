-- The first member along the superinterfaces, with the level where it stands.
use Rattle.std.specs.Prelude.{ℕ, ◌+◌, zero, suc, nat_lt, List, flat_map, Option, Some, None, option_map, if◌then◌else◌}
use Rattle.std.specs.Option.{option_or}
use Rattle.set_lookups.specs.declared.near.Near.{Near}
use Rattle.set_lookups.specs.First.{first}
use Rattle.set_lookups.specs.Lookups.{Member}

-- one that is found at once
abbrev pub here : Option Member → Option Near
here member = option_map (λ found. record { level = 0; found = found }) member

-- the same, seen from a level below
abbrev pub raised : Option Near → Option Near
raised near = option_map (λ n. record { level = suc n.level; found = n.found }) near

-- the same, seen from so many levels below
abbrev pub lifted : ℕ → Option Near → Option Near
lifted depth near = option_map (λ n. record { level = n.level + depth; found = n.found }) near

-- the one at the lower level, the first of two at the same
abbrev pub closer : Option Near → Option Near → Option Near
closer a None = a
closer None (Some b) = Some b
closer (Some a) (Some b) = if nat_lt b.level a.level then Some b else Some a

-- the first that these have or, else, those directly above them, and so on, in at most so many levels
unfoldable pub nearest : ℕ → (ℕ → List ℕ) → (ℕ → Option Member) → List ℕ → Option Near
nearest zero up f numbers = here (first f numbers)
nearest (suc steps) up f numbers = option_or (here (first f numbers)) (raised (nearest steps up f (flat_map up numbers)))
