-- What holds of each instruction of straight-line code holds along it.
use Rattle.std.proofs.Common.{◌≡◌, ◌∙◌, List, [], ◌∷◌, refl, Option, None}
use Rattle.std.specs.Prelude.{flat_map}
use Rattle.class_model.specs.declared.insn.Insn.{Insn}
use Rattle.set_lookups.specs.First.{first}
use Rattle.set_lookups.proofs.Lists.{first_append}
use Rattle.first_form_laws.proofs.Firsts.{two_none}
use Rattle.first_form_laws.proofs.Written.{Straight, AllStraight}

pub none_along : {B : Type 0} (f : Insn → Option B) → ((insn : Insn) → Straight insn → f insn ≡ None) → (insns : List Insn) → AllStraight insns → first f insns ≡ None
unfolding first
none_along f h [] all = refl
none_along f h (insn ∷ insns) all = two_none (f insn) (first f insns) (h insn all.0) (none_along f h insns all.1)

pub none_joined : {B C : Type 0} (f : C → Option B) (g : Insn → List C) → ((insn : Insn) → Straight insn → first f (g insn) ≡ None) → (insns : List Insn) → AllStraight insns → first f (flat_map g insns) ≡ None
unfolding first
none_joined f g h [] all = refl
none_joined f g h (insn ∷ insns) all =
    first_append f (g insn) (flat_map g insns) ∙ two_none (first f (g insn)) (first f (flat_map g insns)) (h insn all.0) (none_joined f g h insns all.1)
