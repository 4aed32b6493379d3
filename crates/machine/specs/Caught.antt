-- What a method does with an exception that is thrown in it.
use Rattle.std.specs.Prelude.{◌≡◌, ℕ, leb, ltb, ◌&&◌, Bool, true, List, [], ◌∷◌, Option, Some, None}
use Rattle.run_state.specs.State.{Method}
use Rattle.run_state.specs.Unwinding.{catching, first_of}
use Rattle.linked_code.specs.declared.program.Handler.{Handler}
use Rattle.linked_code.specs.World.{World}
use Rattle.linked_code.specs.Kept.{is_among}
use Rattle.machine.specs.declared.catching.Verdict.{Verdict}
use Rattle.machine.specs.declared.catching.Verdict.TheVariants as verdict

abbrev pub takes : List ℕ → Option ℕ → Bool
takes fits None = true
takes fits (Some k) = is_among fits k

-- the target of the first handler that covers an instruction and takes a class which fits those of a list
abbrev pub caught_by : List ℕ → List Handler → ℕ → Option ℕ
caught_by fits [] at = None
caught_by fits (h ∷ hs) at = first_of ((leb h.start at && ltb at h.end) && takes fits h.caught) h.target (caught_by fits hs at)

-- an exception of class c, thrown at an instruction of a method
abbrev pub Judges : {T : Type 0} → World T → Method → List ℕ → ℕ → Verdict → Type 0
Judges w d c at (verdict.Lands target) = catching w.looks c at d.handlers ≡ Some target
Judges w d c at (verdict.Fails k) = (catching w.looks c at d.handlers ≡ None) × (d.begins ≡ Some (w.class k))
Judges w d c at verdict.Passes = (catching w.looks c at d.handlers ≡ None) × (d.begins ≡ None)
