-- What a run tells of its state.
use Rattle.std.proofs.Common.{◌≡◌, ℕ, ◌∙◌, List, ap, sym}
use Rattle.class_model.specs.declared.class.ClassDef.{ClassDef}
use Rattle.run_state.specs.declared.ending.Ending.{Ending}
use Rattle.machine.specs.Shown.{ending_of}
use Rattle.program_links.specs.Numbers.{Numbers}
use Rattle.program_links.specs.WorldOf.{world_of}
use Rattle.plain_machine.specs.declared.plain_run.PlainRun.{PlainRun}
use Rattle.plain_machine.specs.Standing.{set_of, main_of, state_at, StandsAt}
use Rattle.plain_machine.specs.Endings.{ending_shown, told}

pub console : (r : PlainRun) (input : List ℕ) (k : ℕ) → StandsAt r input k → r.machine.console ≡ (state_at r input k).outside.console
console r input k s = sym (ap (λ x. x.outside.console) s.1.shows.state)

pub reports : (r : PlainRun) (input : List ℕ) (k : ℕ) → StandsAt r input k → r.machine.reports ≡ (state_at r input k).outside.reports
reports r input k s = sym (ap (λ x. x.outside.reports) s.1.shows.state)

pub ending : (r : PlainRun) (e : Ending) (input : List ℕ) (k : ℕ)
    → ((set : List ClassDef) (main : List ℕ) (t : Numbers) → ending_shown set e ≡ told (ending_of {T = Unit {0}} (world_of set main t) r.machine.ending))
    → StandsAt r input k → ending_shown (set_of r) e ≡ told (state_at r input k).ending
ending r e input k tells s = tells (set_of r) (main_of r) s.1.shows.numbers ∙ ap told (sym (ap (λ x. x.ending) s.1.shows.state))
