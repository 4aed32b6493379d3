-- Steps of a run.
use Rattle.std.proofs.Common.{◌≡◌, ◌≢◌, ◌<◌, ◌⊎◌, ℕ, ◌∙◌, false, List, [], ◌∷◌, Option, None, Result, Ok, Err, IfOk, inl, inr, ap, sym}
use Rattle.std.specs.declared.alloc.AllocError.{AllocError}
use Rattle.run_state.specs.Tags.{plain}
use Rattle.run_state.specs.SetLooks.{looks_of}
use Rattle.run_state.specs.Step.{step, run}
use Rattle.linked_code.specs.World.{World, tags_of}
use Rattle.linked_code.specs.Links.{Links}
use Rattle.machine.specs.declared.state.Machine.{Machine}
use Rattle.machine.specs.declared.state.Ending.TheVariants as ending
use Rattle.machine.specs.declared.state.Turn.{Turn}
use Rattle.machine.specs.declared.state.Turn.TheVariants as turn
use Rattle.machine.specs.Shown.{shown, ending_of, input_of}
use Rattle.machine.specs.Reached.{Reaches, ReachesWithin}
use Rattle.machine.specs.Turned as turned
use Rattle.machine.specs.Turned.{Behind, FedOn, IsAtRest, Rests}
use Rattle.program_links.specs.WorldOf.{world_of}
use Rattle.plain_machine.specs.declared.plain_run.PlainRun.{PlainRun}
use Rattle.plain_machine.specs.Standing.{set_of, main_of, GoesOn, GoesWithin, IsOpen, TakesNext, TakesNone, HasEnded, IsRunning, IsWaiting, Answers}
use Rattle.plain_machine.proofs.Starts.{nothing_known}
use Rattle.plain_machine.proofs.Standing.{runs_from, takes_running, ended_shown}

-- a run with another machine
abbrev pub moved : PlainRun → Machine (Unit {0}) → PlainRun
moved r m = record r { machine = m }

-- where the machine comes in so many steps, the run goes on by as many
pub goes : (r : PlainRun) (m : Machine (Unit {0})) (j : ℕ) → Reaches tt (λ a b. tt) r.program r.closed r.machine m j → GoesOn r (moved r m) j
goes r m j reaches input k rest s = record {
  behind = s.behind;
  shows = record {
    numbers = s.shows.numbers;
    links = s.shows.links;
    state = runs_from (set_of r) (main_of r) input k j
        ∙ ap (run plain (looks_of (set_of r) (main_of r)) j) s.shows.state
        ∙ sym (reaches.by (world_of (set_of r) (main_of r) s.shows.numbers) rest s.shows.links s.behind);
  };
}

pub goes_within : (r : PlainRun) (m : Machine (Unit {0})) (steps : ℕ) → ReachesWithin tt (λ a b. tt) r.program r.closed r.machine m steps → GoesWithin r (moved r m) steps
goes_within r m steps some = record { made = some.made; few = some.few; on = goes r m some.made some.by }

-- a machine that goes on, and one that does not
pub running : (r : PlainRun) → r.machine.ending ≡ ending.Running → IsRunning r
running r e input k s = ap (λ x. x.ending) s.1.shows.state ∙ ap (ending_of {T = Unit {0}} (world_of (set_of r) (main_of r) s.1.shows.numbers)) e

pub has_ended : (r : PlainRun) → r.machine.ending ≢ ending.Running → HasEnded r
has_ended r h input k s e = ended_shown {T = Unit {0}} (world_of (set_of r) (main_of r) s.1.shows.numbers) r.machine.ending h (sym (ap (λ x. x.ending) s.1.shows.state) ∙ e)

-- the next step of the machine takes a byte, in every world by which its program is linked
abbrev pub Takes : PlainRun → Type 0
Takes r = (w : World (Unit {0})) → Links tt w r.program → turned.TakesNext tt (λ a b. tt) w r.machine

pub takes_next : (r : PlainRun) → Takes r → TakesNext r
takes_next r takes input k b bs s =
    ap (λ x. x.outside.input) (runs_from (set_of r) (main_of r) input k 1 ∙ ap (step plain (looks_of (set_of r) (main_of r))) s.shows.state)
    ∙ takes (world_of (set_of r) (main_of r) s.shows.numbers) s.shows.links b bs

pub waits_running : (r : PlainRun) → r.machine.fed ≡ None → Takes r → IsRunning r
waits_running r fed takes input k s =
    ap (λ x. x.ending) s.1.shows.state
    ∙ takes_running plain (looks_of (set_of r) (main_of r)) 0 (shown (world_of (set_of r) (main_of r) s.1.shows.numbers) r.machine (0 ∷ [])).ending
    (shown (world_of (set_of r) (main_of r) s.1.shows.numbers) r.machine (0 ∷ []))
    (ap (λ b. input_of b (0 ∷ [])) fed)
    (takes (world_of (set_of r) (main_of r) s.1.shows.numbers) s.1.shows.links 0 [])

pub waits : (r : PlainRun) → r.machine.fed ≡ None → r.closed ≡ false → Takes r → IsWaiting r
waits r fed closed takes = record { running = waits_running r fed takes; «open» = (fed, closed); takes = takes_next r takes }

pub rests : (r : PlainRun) → IsAtRest tt (λ a b. tt) r.program r.closed r.machine → IsWaiting r ⊎ HasEnded r
rests r (inl h) = inl (waits r h.0 h.1 h.2)
rests r (inr h) = inr (has_ended r h)

pub rests_if : (r : PlainRun) (steps : ℕ) (result : Result ℕ AllocError) → IfOk result (λ made. made < steps → IsAtRest tt (λ a b. tt) r.program r.closed r.machine) → IfOk result (λ made. made < steps → IsWaiting r ⊎ HasEnded r)
rests_if r steps (Ok made) h = λ few. rests r (h few)
rests_if r steps (Err e) h = tt

-- nothing is fed after a step from where nothing was
pub still_unfed : (old new : Option ℕ) → FedOn old new → old ≡ None → new ≡ None
still_unfed old new (inl same) e = same ∙ e
still_unfed old new (inr none) e = none

pub takes_none : (r : PlainRun) (m : Machine (Unit {0})) → GoesOn r (moved r m) 1 → FedOn r.machine.fed m.fed → IsOpen r → TakesNone r
takes_none r m on fed opened input k rest s =
    ap (λ x. x.outside.input) (on input k rest s).shows.state
    ∙ ap (λ b. input_of b rest) (still_unfed r.machine.fed m.fed fed opened.0)

-- what a step answers
pub answered : (r : PlainRun) (m : Machine (Unit {0})) (t : Turn)
    → ((w : World (Unit {0})) (more : List ℕ) → Links tt w r.program → Behind r.closed more → turned.Answers w r.machine m more t (step (tags_of tt (λ a b. tt) w) w.looks (shown w r.machine more)))
    → Rests r.closed r.machine m t → Answers r (moved r m) t
answered r m turn.Went answers rests =
    let on : GoesOn r (moved r m) 1 = goes r m 1 (record { by = λ w more l b. answers w more l b }) in
    record { running = running r rests.0; on = on; fed = rests.1; leaves = takes_none r m on rests.1 }
answered r m turn.Wants answers rests = (ap (moved r) rests.0, waits r rests.1 rests.2 (λ w l b more. (answers w (b ∷ more) l (nothing_known r.closed (b ∷ more) rests.2)).1))
answered r m turn.Ended answers rests = (ap (moved r) rests.0, has_ended r rests.1)
