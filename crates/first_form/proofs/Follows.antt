-- What a test of one instruction says, put together from what tests of its parts say.
use Rattle.std.proofs.Common.{◌≡◌, ℕ, Bool, true, false, sym, subst}
use Rattle.class_model.specs.declared.insn.Insn.{Insn}
use Rattle.first_form.specs.declared.frame.IntFrame.{IntFrame}
use Rattle.profile_check.specs.declared.profile.Names.{Names}
use Rattle.first_form.specs.Typing.{Types}
use Rattle.first_form.specs.Stepping.{Follows}

-- a fact that was tested before
pub follows_with : (P : Type 0) (row : IntFrame → Type 0) (r : Bool) (g : IntFrame) → P → Follows r row g → Follows r (λ h. P × row h) g
follows_with P row true g holds follows = (holds, follows)
follows_with P row false g holds follows = λ h both. follows h both.1

-- the shape of the instruction
pub follows_at : (names : Names) (most : ℕ) (insn shape : Insn) (f : IntFrame) (r : Bool) (g : IntFrame) → insn ≡ shape
    → Follows r (Types names most shape f) g → Follows r (Types names most insn f) g
follows_at names most insn shape f r g is follows = subst (λ (i : Insn). Follows r (Types names most i f) g) (sym is) follows
