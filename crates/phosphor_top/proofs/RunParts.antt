-- What the parts of `run` give.
use Rattle.std.proofs.Common.{◌≡◌, ◌∙◌, ℕ, ◌+◌, List, Option, Some, None, sym, ap, subst, arith, inl, inr}
use Rattle.std.specs.Prelude.{Result, Ok, Err, IfErr, IfOk, IfSome, IsErrAnd}
use Rattle.outside_io.specs.Files.{Files, Stay}
use Rattle.outside_io.specs.Streams.{Takes}
use Rattle.class_model.specs.declared.class.ClassDef.{ClassDef}
use Rattle.run_state.specs.State.{State}
use Rattle.run_state.specs.declared.ending.Ending.{Ending}
use Rattle.run_state.specs.declared.report.Report.{Report}
use Rattle.run_state.specs.Observation.{plain_at, HasMain}
use Rattle.profile_check.specs.declared.profile.Names.TheVariants as names
use Rattle.plain_machine.specs.declared.plain_run.PlainRun.{PlainRun}
use Rattle.plain_machine.specs.Standing.{IsOfSame, StandsAt, console_of, main_of, set_of, state_at}
use Rattle.plain_machine.specs.Endings.{ending_shown, told}
use Rattle.command_parts.specs.RunLines.{run_lines, run_status}
use Rattle.run_console.specs.Runs.{IfRan, IfTold, Runs, StandsBefore, Tells}
use Rattle.run_console.specs.declared.stop.RunStop.{RunStop}
use Rattle.run_console.specs.declared.stop.RunStop.TheVariants.{ReadFault, WriteFault, Memory as RunMemory}
use Rattle.command_parts.specs.Told.{Took, TookFront}
use Rattle.command_parts.specs.declared.stop.Stop.{Stop}
use Rattle.command_parts.specs.declared.stop.Stop.TheVariants.{InputFault, OutputFault, Memory}
use Rattle.phosphor_top.specs.declared.done.Done.{Done}
use Rattle.phosphor_top.specs.declared.done.Done.TheVariants.{Silent, Ran}
use Rattle.phosphor_top.specs.Commands.{Program}
use Rattle.phosphor_top.specs.Streams.{Streams}
use Rattle.phosphor_top.specs.Loading.{LoadsFrom, RefusesLoad}
use Rattle.phosphor_top.specs.Endings as endings
use Rattle.phosphor_top.specs.Verdict.{IsVerdict}
use Rattle.phosphor_top.specs.Run.{Answers, Ends, HasFront, HasLeft, HasRunTo, IsDoneOf, IsFresh, IsRunDone, IsRunOf, IsRunStop, Passes, Puts, RanSet, Refuses, RefusesMain, Went, state_after}
use Rattle.phosphor_top.proofs.LoadOnce.{one_loaded}
use Rattle.phosphor_top.proofs.RunOnce.{passes_or_refused}
use Rattle.phosphor_top.proofs.Written.{took_front, same_front}

-- ---- the steps

-- a fresh run that was made stands at its steps
stood : (old new : PlainRun) (steps : ℕ) (given left : List ℕ) → IsFresh old → Runs old new steps given left → StandsBefore new given steps left
stood old new steps given left fresh runs =
    let none : 0 + steps ≡ steps = omega arith in
    subst (λ (k : ℕ). StandsBefore new given k left) none (runs given 0 (record { stands = fresh.stands given; unfed = fresh.«open».0 }))

same_state : (old new : PlainRun) (given : List ℕ) (steps : ℕ) → IsOfSame old new → state_at new given steps ≡ state_at old given steps
same_state old new given steps same = ap (λ (set : List ClassDef). plain_at set (main_of new) given steps) same.0 ∙ ap (λ (main : List ℕ). plain_at (set_of old) main given steps) same.1

run_to_at : (old new : PlainRun) (steps : ℕ) (given left : List ℕ) → IsFresh old → IsOfSame old new → Runs old new steps given left
    → ((input : List ℕ) (k : ℕ) (rest : List ℕ) → StandsBefore new input k rest → Tells new input k rest) → HasRunTo old new steps given left
run_to_at old new steps given left fresh same runs tells =
    let at = stood old new steps given left fresh runs in
    record { same = same; stands = (left, at.stands); taken = sym (tells given steps left at).rest ∙ ap (λ (s : State (Unit {0})). s.outside.input) (same_state old new given steps same) }

pub run_to : (m n : Option (List ℕ)) (old new : PlainRun) (steps : ℕ) → IsFresh old → IsOfSame old new → IfTold m n (Runs old new steps)
    → ((input : List ℕ) (k : ℕ) (rest : List ℕ) → StandsBefore new input k rest → Tells new input k rest) → IfTold m n (HasRunTo old new steps)
run_to None n old new steps fresh same runs tells = tt
run_to (Some given) None old new steps fresh same runs tells = absurd runs
run_to (Some given) (Some left) old new steps fresh same runs tells = run_to_at old new steps given left fresh same runs tells

-- ---- the console

takes_front : {E : Type 0} (before now : Option (List ℕ)) (text : List ℕ) (stop : E) → Takes before now text (Err stop) → TookFront before now text
takes_front None now text stop takes = tt
takes_front (Some old) None text stop takes = absurd takes
takes_front (Some old) (Some new) text stop takes = takes

console_is : (old new : PlainRun) (steps : ℕ) (given left : List ℕ) → IsFresh old → IsOfSame old new → Runs old new steps given left
    → ((input : List ℕ) (k : ℕ) (rest : List ℕ) → StandsBefore new input k rest → Tells new input k rest) → console_of new ≡ (state_at old given steps).outside.console
console_is old new steps given left fresh same runs tells =
    sym (tells given steps left (stood old new steps given left fresh runs)).console ∙ ap (λ (s : State (Unit {0})). s.outside.console) (same_state old new given steps same)

pub puts_front : {E : Type 0} (m n before now : Option (List ℕ)) (old new : PlainRun) (steps : ℕ) (stop : E) (told : Stop) → IsFresh old → IsOfSame old new → IfTold m n (Runs old new steps)
    → ((input : List ℕ) (k : ℕ) (rest : List ℕ) → StandsBefore new input k rest → Tells new input k rest) → Takes before now (console_of new) (Err stop)
    → Puts m before now (set_of old) (main_of old) steps (Err told)
puts_front None n before now old new steps stop told fresh same runs tells takes = tt
puts_front (Some given) None before now old new steps stop told fresh same runs tells takes = absurd runs
puts_front (Some given) (Some left) before now old new steps stop told fresh same runs tells takes =
    subst (λ (text : List ℕ). TookFront before now text) (console_is old new steps given left fresh same runs tells) (takes_front before now (console_of new) stop takes)

-- of a run whose console could not be written
pub ran_of : (P : Type 0) (stop : RunStop) → stop ≡ WriteFault → IfRan (Err stop) P → P
ran_of P WriteFault is p = p
ran_of P ReadFault is p = absurd cc
ran_of P RunMemory is p = absurd cc

pub puts_nothing : (m before now : Option (List ℕ)) (set : List ClassDef) (main : List ℕ) (steps : ℕ) (told : Stop) → now ≡ before → Puts m before now set main steps (Err told)
puts_nothing None before now set main steps told same = tt
puts_nothing (Some given) before now set main steps told same = same_front before now (plain_at set main given steps).outside.console same

-- ---- a run and its lines

pub done_of : (set : List ClassDef) (run : PlainRun) (ending : Ending) (reports : List Report) (status : ℕ) (lines : List ℕ)
    → ((input : List ℕ) (k : ℕ) → StandsAt run input k → ending_shown (set_of run) ending ≡ told (state_at run input k).ending)
    → ((input : List ℕ) (k : ℕ) → StandsAt run input k → reports ≡ (state_at run input k).outside.reports)
    → status ≡ run_status ending → lines ≡ run_lines set reports ending
    → (input : List ℕ) (k : ℕ) → set ≡ set_of run → StandsAt run input k → IsDoneOf set (state_at run input k) (Ran status lines)
done_of set run ending reports status lines ends reported status_is lines_are input k of stands =
    (ending, ap (λ (s : List ClassDef). ending_shown s ending) of ∙ ends input k stands, status_is, lines_are ∙ ap (λ (rs : List Report). run_lines set rs ending) (reported input k stands))

left_at : (old new : PlainRun) (steps : ℕ) (given left : List ℕ) (before now : Option (List ℕ)) (done : Done) → HasRunTo old new steps given left → Took before now (state_at old given steps).outside.console
    → ((input : List ℕ) (k : ℕ) → StandsAt new input k → IsDoneOf (set_of old) (state_at new input k) done) → HasLeft (set_of old) (state_at old given steps) left before now done
left_at old new steps given left before now done has took is = record {
  taken = has.taken;
  console = took;
  outcome = subst (λ (s : State (Unit {0})). IsDoneOf (set_of old) s done) (same_state old new given steps has.same) (is given steps has.stands);
}

went_by : (m n before now : Option (List ℕ)) (old new : PlainRun) (steps : ℕ) (done : Done) → IfTold m n (HasRunTo old new steps) → Puts m before now (set_of old) (main_of old) steps (Ok tt)
    → ((input : List ℕ) (k : ℕ) → StandsAt new input k → IsDoneOf (set_of old) (state_at new input k) done)
    → IfTold m n (λ given left. HasLeft (set_of old) (state_at old given steps) left before now done)
went_by None n before now old new steps done has puts is = tt
went_by (Some given) None before now old new steps done has puts is = absurd has
went_by (Some given) (Some left) before now old new steps done has puts is = left_at old new steps given left before now done has puts is

fronted : (m before now : Option (List ℕ)) (set : List ClassDef) (main : List ℕ) (steps : ℕ) → Puts m before now set main steps (Ok tt) → IfSome m (λ given. TookFront before now (plain_at set main given steps).outside.console)
fronted None before now set main steps puts = tt
fronted (Some given) before now set main steps puts = took_front before now (plain_at set main given steps).outside.console puts

-- it was made, and its lines
finished : (set : List ClassDef) (old new : PlainRun) (steps : ℕ) (before now : Streams) (done : Done) → set ≡ set_of old → IsOfSame old new → IfTold before.input now.input (HasRunTo old new steps)
    → Puts before.input before.output now.output (set_of old) (main_of old) steps (Ok tt)
    → ((input : List ℕ) (k : ℕ) → set ≡ set_of new → StandsAt new input k → IsDoneOf set (state_at new input k) done) → Went set (main_of old) steps before now (Ok done)
finished set old new steps before now done of same has puts is =
    let is_of : (input : List ℕ) (k : ℕ) → StandsAt new input k → IsDoneOf (set_of old) (state_at new input k) done =
    λ input k stands. subst (λ (s : List ClassDef). IsDoneOf s (state_at new input k) done) of (is input k (of ∙ sym same.0) stands) in
    let went : Went (set_of old) (main_of old) steps before now (Ok done) = record {
      ran = went_by before.input now.input before.output now.output old new steps done has puts is_of;
      stops = tt;
      front = fronted before.input before.output now.output (set_of old) (main_of old) steps puts;
    } in
    subst (λ (s : List ClassDef). Went s (main_of old) steps before now (Ok done)) (sym of) went

-- it was made, and there was no memory for its lines
not_told : (set : List ClassDef) (old : PlainRun) (steps : ℕ) (before now : Streams) → set ≡ set_of old → Puts before.input before.output now.output (set_of old) (main_of old) steps (Ok tt)
    → Went set (main_of old) steps before now (Err Memory)
not_told set old steps before now of puts =
    let went : Went (set_of old) (main_of old) steps before now (Err Memory) = record { ran = tt; stops = tt; front = fronted before.input before.output now.output (set_of old) (main_of old) steps puts } in
    subst (λ (s : List ClassDef). Went s (main_of old) steps before now (Err Memory)) (sym of) went

-- it was made, and its lines, or there was no memory for them
pub told_or_not : (set : List ClassDef) (old new : PlainRun) (steps : ℕ) (before now : Streams) (result : Result Done Stop) → set ≡ set_of old → IsOfSame old new
    → IfTold before.input now.input (HasRunTo old new steps) → Puts before.input before.output now.output (set_of old) (main_of old) steps (Ok tt) → IfErr result (λ stop. stop ≡ Memory)
    → IfOk result (λ done. (input : List ℕ) (k : ℕ) → set ≡ set_of new → StandsAt new input k → IsDoneOf set (state_at new input k) done) → Went set (main_of old) steps before now result
told_or_not set old new steps before now (Ok done) of same has puts memory is = finished set old new steps before now done of same has puts is
told_or_not set old new steps before now (Err stop) of same has puts memory is =
    subst (λ (s : Stop). Went set (main_of old) steps before now (Err s)) (sym memory) (not_told set old steps before now of puts)

-- it was stopped
pub stopped : (set : List ClassDef) (old : PlainRun) (steps : ℕ) (before now : Streams) (stop : Stop) → set ≡ set_of old → Puts before.input before.output now.output (set_of old) (main_of old) steps (Err stop)
    → IsRunStop stop → Went set (main_of old) steps before now (Err stop)
stopped set old steps before now stop of puts stops =
    let went : Went (set_of old) (main_of old) steps before now (Err stop) = record { ran = tt; stops = stops; front = puts } in
    subst (λ (s : List ClassDef). Went s (main_of old) steps before now (Err stop)) (sym of) went

-- ---- the command

front_none : (program : Program) (files : Files) (before now : Streams) → now.output ≡ before.output → HasFront program files before now
front_none program files before now same set passes = puts_nothing before.input before.output now.output set program.main program.steps Memory same

-- a folder that does not load
refused_answers : (program : Program) (files : Files) (before now : Streams) (stop : Stop) → RefusesLoad names.Written files program.dir stop → Answers program files before now (Err stop)
refused_answers program files before now InputFault refuses = absurd refuses
refused_answers program files before now OutputFault refuses = absurd refuses
refused_answers program files before now _ refuses = inl refuses

not_loaded : (m n : Option Files) (program : Program) (before now : Streams) (stop : Stop) → Stay m n → IfSome m (λ files. RefusesLoad names.Written files program.dir stop) → now.output ≡ before.output
    → endings.IfTold m n (λ old new. Ends program old new before now (Err stop))
not_loaded None n program before now stop stay refuses same = tt
not_loaded (Some old) None program before now stop stay refuses same = absurd stay
not_loaded (Some old) (Some new) program before now stop stay refuses same =
    record { kept = stay; answers = refused_answers program old before now stop refuses; front = front_none program old before now same }

-- the same, told by a result
pub refused : (m n : Option Files) (program : Program) (before now : Streams) (stop : Stop) (result : Result Done Stop) → Stay m n → IfSome m (λ files. RefusesLoad names.Written files program.dir stop)
    → now.output ≡ before.output → IsErrAnd result (λ other. other ≡ stop) → endings.IfTold m n (λ old new. Ends program old new before now result)
refused m n program before now stop (Ok done) stay refuses same is = absurd is
refused m n program before now stop (Err other) stay refuses same is =
    subst (λ (s : Stop). endings.IfTold m n (λ old new. Ends program old new before now (Err s))) (sym is) (not_loaded m n program before now stop stay refuses same)

of_run : (set : List ClassDef) (program : Program) (m n before now : Option (List ℕ)) (told : ℕ) (lines : List ℕ)
    → IfTold m n (λ given left. HasLeft set (state_after program set given) left before now (Ran told lines)) → IfTold m n (λ given left. IsRunOf set (state_after program set given) left before now told lines)
of_run set program None n before now told lines ran = tt
of_run set program (Some given) None before now told lines ran = absurd ran
of_run set program (Some given) (Some left) before now told lines ran =
    record { taken = ran.taken; console = ran.console; ending = ran.outcome.0; shown = ran.outcome.1; status_is = ran.outcome.2; lines_are = ran.outcome.3 }

answers_done : (program : Program) (files : Files) (set : List ClassDef) (before now : Streams) (done : Done) → Passes program files set → IsRunDone done → Went set program.main program.steps before now (Ok done)
    → Answers program files before now (Ok done)
answers_done program files set before now Silent passes end went = absurd end
answers_done program files set before now (Ran told lines) passes end went = (set, passes, of_run set program before.input now.input before.output now.output told lines went.ran)

answers_stop : (program : Program) (files : Files) (set : List ClassDef) (before now : Streams) (stop : Stop) → Passes program files set → IsRunStop stop → Answers program files before now (Err stop)
answers_stop program files set before now InputFault passes is = (set, passes)
answers_stop program files set before now OutputFault passes is = (set, passes)
answers_stop program files set before now Memory passes is = inl tt
answers_stop program files set before now _ passes is = absurd is

answers_refusal : (program : Program) (files : Files) (set : List ClassDef) (before now : Streams) (stop : Stop) → LoadsFrom names.Written files program.dir set → RefusesMain set program.main stop → Answers program files before now (Err stop)
answers_refusal program files set before now InputFault loads refuses = absurd refuses
answers_refusal program files set before now OutputFault loads refuses = absurd refuses
answers_refusal program files set before now _ loads refuses = inr (set, loads, refuses)

went_front : (program : Program) (files : Files) (set : List ClassDef) (before now : Streams) (result : Result Done Stop) → LoadsFrom names.Written files program.dir set → Went set program.main program.steps before now result
    → HasFront program files before now
went_front program files set before now result loads went other passes =
    subst (λ (s : List ClassDef). IfSome before.input (λ given. TookFront before.output now.output (state_after program s given).outside.console))
    (one_loaded names.Written files program.dir set other loads passes.loads) went.front

ends_as : (program : Program) (old new : Files) (set : List ClassDef) (before now : Streams) (result : Result Done Stop) → new ≡ old → LoadsFrom names.Written old program.dir set → IfOk result IsRunDone
    → RanSet set program before now result → Ends program old new before now result
ends_as program old new set before now (Ok done) kept loads end ran = record {
  kept = kept;
  answers = answers_done program old set before now done (record { loads = loads; main = ran.0 }) end ran.1;
  front = went_front program old set before now (Ok done) loads ran.1;
}
ends_as program old new set before now (Err stop) kept loads end (inl ran) = record {
  kept = kept;
  answers = answers_stop program old set before now stop (record { loads = loads; main = ran.0 }) ran.1.stops;
  front = went_front program old set before now (Err stop) loads ran.1;
}
ends_as program old new set before now (Err stop) kept loads end (inr refused) =
    record { kept = kept; answers = answers_refusal program old set before now stop loads refused.0; front = front_none program old before now refused.1 }

-- a folder that loads
pub loaded : (m n : Option Files) (program : Program) (set : List ClassDef) (before now : Streams) (result : Result Done Stop) → Stay m n → IfSome m (λ files. LoadsFrom names.Written files program.dir set)
    → IfOk result IsRunDone → RanSet set program before now result → endings.IfTold m n (λ old new. Ends program old new before now result)
loaded None n program set before now result stay loads end ran = tt
loaded (Some old) None program set before now result stay loads end ran = absurd stay
loaded (Some old) (Some new) program set before now result stay loads end ran = ends_as program old new set before now result stay loads end ran

-- where the verdict refuses a folder that loads, its class has no `main`; P is that nothing was written
pub barred : (P : Type 0) (m : Option Files) (program : Program) (set : List ClassDef) → IfSome m (λ files. LoadsFrom names.Written files program.dir set) → ((HasMain set program.main → ⊥) → P)
    → IfSome m (λ files. (refusal : Stop) → IsVerdict refusal → Refuses program files refusal → P)
barred P None program set loads quiet = tt
barred P (Some files) program set loads quiet = λ refusal is refuses. quiet (λ main. passes_or_refused program files set refusal is (record { loads = loads; main = main }) refuses)
