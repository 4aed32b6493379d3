-- What standard output gets.
use Rattle.std.proofs.Common.{◌≡◌, ◌≢◌, ◌∙◌, ℕ, List, ◌++◌, length, Option, Some, None, sym, ap, subst, arith, inl, inr}
use Rattle.std.specs.Prelude.{Result, Ok, Err, IfErr, IfOk, IfSome}
use Rattle.std.proofs.lemmas.List.{take_all, append-nil}
use Rattle.outside_io.specs.Files.{Files}
use Rattle.command_parts.specs.Lines.{ok_line}
use Rattle.command_parts.specs.Stops.{status_of}
use Rattle.command_parts.specs.Told.{Took, TookFront}
use Rattle.command_parts.specs.declared.stop.Stop.{Stop}
use Rattle.command_parts.specs.declared.stop.Stop.TheVariants.{Usage, OutputFault}
use Rattle.phosphor_top.specs.declared.done.Done.{Done}
use Rattle.phosphor_top.specs.declared.done.Done.TheVariants.{Silent, Ran}
use Rattle.phosphor_top.specs.Commands.{Command, Check, Run, Program, SpellsCheck, SpellsRun, IsRun}
use Rattle.phosphor_top.specs.Streams.{Streams}
use Rattle.phosphor_top.specs.Verdict.{IsVerdict}
use Rattle.phosphor_top.specs.Endings.{Ends, IfTold, IsSilent, Obeys, OnlyRun}
use Rattle.phosphor_top.specs.Answers.{HasConsole, HasFront, Tells}
use Rattle.phosphor_top.specs.Check as check
use Rattle.phosphor_top.specs.Run as run
use Rattle.phosphor_top.proofs.Commanded.{one_command, never_run_and_check}
use Rattle.phosphor_top.proofs.VerdictOnce.{passes_or_refused, one_count}

-- a sink that is as before holds what it held
pub quiet : {A : Type 0} (P : Type 0) (held : A → Option (List ℕ)) (old new : A) (outcome : Result Done Stop) → IfErr outcome (λ stop. stop ≢ OutputFault → P → new ≡ old)
    → IfErr outcome (λ stop. stop ≢ OutputFault → P → held new ≡ held old)
quiet P held old new (Ok done) silent = tt
quiet P held old new (Err stop) silent = λ apart p. ap held (silent apart p)

-- where a check passes, the verdict does not refuse it; P is that nothing was written
pub check_barred : (P : Type 0) (dir : List ℕ) (m : Option Files) (count : ℕ) → IfSome m (λ files. check.Passes dir files count)
    → IfSome m (λ files. (refusal : Stop) → IsVerdict refusal → check.Refuses dir files refusal → P)
check_barred P dir None count passes = tt
check_barred P dir (Some files) count passes = λ refusal is refuses. absurd (passes_or_refused (Check dir) files refusal is (count, passes) refuses)

four_of : (stop : Stop) (e f : Option (List ℕ)) (r s status : ℕ) → stop ≡ OutputFault → Tells (Err stop) e f r s status → status ≡ 4
four_of stop e f r s status is tells = elim tells.1 [ inl t ↦ t.0 ∙ ap status_of is | inr t ↦ t.0 ]

-- nothing was written at a status but 0 and 4, a run aside; P is that nothing was written
pub silent : (P : Type 0) (words : List (List ℕ)) (outcome : Result Done Stop) (e f : Option (List ℕ)) (r s status : ℕ) → Tells outcome e f r s status → IfOk outcome (OnlyRun words)
    → IfErr outcome (λ stop. stop ≢ OutputFault → (IsRun words → ⊥) → P) → status ≢ 0 → status ≢ 4 → (IsRun words → ⊥) → P
silent P words (Ok Silent) e f r s status tells only quiet zero four apart = absurd (zero tells.0)
silent P words (Ok (Ran told lines)) e f r s status tells only quiet zero four apart = absurd (apart only)
silent P words (Err stop) e f r s status tells only quiet zero four apart = quiet (λ is. four (four_of stop e f r s status is tells)) apart

-- ---- the line of a check

pub took_front : (before now : Option (List ℕ)) (text : List ℕ) → Took before now text → TookFront before now text
took_front None now text took = tt
took_front (Some old) None text took = absurd took
took_front (Some old) (Some new) text took = (length text, took ∙ ap (λ (xs : List ℕ). old ++ xs) (sym (take_all (length text) text (omega arith))))

pub same_front : (before now : Option (List ℕ)) (text : List ℕ) → now ≡ before → TookFront before now text
same_front None now text same = tt
same_front (Some old) None text same = absurd cc
same_front (Some old) (Some new) text same = let is : new ≡ old = cc in (0, is ∙ sym (append-nil old))

front_of : (dir : List ℕ) (old new : Files) (before now : Option (List ℕ)) (count : ℕ) (outcome : Result (Unit {0}) Stop) → check.Ends dir old new before now outcome → check.Passes dir old count
    → IfErr outcome (λ stop. stop ≢ OutputFault → now ≡ before) → TookFront before now (ok_line count)
front_of dir old new before now count (Ok done) ends passes quiet =
    took_front before now (ok_line count) (subst (λ (k : ℕ). Took before now (ok_line k)) (one_count dir old ends.answers.0 count ends.answers.1 passes) ends.answers.2)
front_of dir old new before now count (Err OutputFault) ends passes quiet =
    subst (λ (k : ℕ). TookFront before now (ok_line k)) (one_count dir old ends.answers.0 count ends.answers.1 passes) ends.answers.2
front_of dir old new before now count (Err _) ends passes quiet = same_front before now (ok_line count) (quiet (λ is. cc))

-- what a check leaves, where the words spell one
check_ends : (words : List (List ℕ)) (old new : Files) (before now : Streams) (dir : List ℕ) (outcome : Result Done Stop) → SpellsCheck words dir → Obeys words old new before now outcome
    → IsSilent (check.Ends dir old new before.output now.output) outcome
check_ends words old new before now dir (Err Usage) spells obeys = absurd (obeys.1 (Check dir) spells)
check_ends words old new before now dir outcome spells obeys = subst (λ (c : Command). Ends c old new before now outcome) (one_command words obeys.0 (Check dir) obeys.1 spells) obeys.2

check_front : (words : List (List ℕ)) (old new : Files) (before now : Streams) (dir : List ℕ) (count : ℕ) (outcome : Result Done Stop) → SpellsCheck words dir
    → IfErr outcome (λ stop. stop ≢ OutputFault → (IsRun words → ⊥) → now.output ≡ before.output) → IsSilent (check.Ends dir old new before.output now.output) outcome → check.Passes dir old count
    → TookFront before.output now.output (ok_line count)
check_front words old new before now dir count (Ok Silent) spells quiet ends passes = front_of dir old new before.output now.output count (Ok tt) ends passes tt
check_front words old new before now dir count (Ok (Ran told lines)) spells quiet ends passes = absurd ends
check_front words old new before now dir count (Err stop) spells quiet ends passes =
    front_of dir old new before.output now.output count (Err stop) ends passes (λ apart. quiet apart (λ run. never_run_and_check words run.0 dir run.1 spells))

pub front : (words : List (List ℕ)) (m n : Option Files) (before now : Streams) (outcome : Result Done Stop) → IfErr outcome (λ stop. stop ≢ OutputFault → (IsRun words → ⊥) → now.output ≡ before.output)
    → IfTold m n (λ old new. Obeys words old new before now outcome) → IfSome m (λ files. HasFront words files before.output now.output)
front words None n before now outcome quiet obeys = tt
front words (Some old) None before now outcome quiet obeys = absurd obeys
front words (Some old) (Some new) before now outcome quiet obeys =
    λ dir count spells passes. check_front words old new before now dir count outcome spells quiet (check_ends words old new before now dir outcome spells obeys) passes

-- ---- the console of a run

run_ends : (words : List (List ℕ)) (old new : Files) (before now : Streams) (program : Program) (outcome : Result Done Stop) → SpellsRun words program → Obeys words old new before now outcome
    → run.Ends program old new before now outcome
run_ends words old new before now program (Err Usage) spells obeys = absurd (obeys.1 (Run program) spells)
run_ends words old new before now program outcome spells obeys = subst (λ (c : Command). Ends c old new before now outcome) (one_command words obeys.0 (Run program) obeys.1 spells) obeys.2

pub console : (words : List (List ℕ)) (m n : Option Files) (before now : Streams) (outcome : Result Done Stop)
    → IfTold m n (λ old new. Obeys words old new before now outcome) → IfSome m (λ files. HasConsole words files before now)
console words None n before now outcome obeys = tt
console words (Some old) None before now outcome obeys = absurd obeys
console words (Some old) (Some new) before now outcome obeys = λ program spells. (run_ends words old new before now program outcome spells obeys).front
