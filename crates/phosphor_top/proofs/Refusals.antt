-- What statuses 2 and 10 say, and where they come.
use Rattle.std.proofs.Common.{◌≡◌, ◌≢◌, ◌∙◌, ℕ, List, Option, Some, None, refl, sym, ap, subst, arith, inl, inr}
use Rattle.std.specs.Prelude.{◌⊎◌, Result, Ok, Err, IfErr, IfOk, IfSome}
use Rattle.outside_io.specs.Causes.{Rose}
use Rattle.outside_io.specs.Files.{Files}
use Rattle.command_parts.specs.Stops.{status_of, line_of}
use Rattle.command_parts.specs.Told.{Took}
use Rattle.command_parts.specs.declared.stop.Stop.{Stop}
use Rattle.command_parts.specs.declared.stop.Stop.TheVariants.{Usage, ListFault, ReadFault, InputFault, WriteFault, OutputFault, Memory}
use Rattle.phosphor_top.specs.declared.done.Done.{Done}
use Rattle.phosphor_top.specs.declared.done.Done.TheVariants.{Silent, Ran}
use Rattle.phosphor_top.specs.Commands.{Command, Instrument, Check, Run, Spells, IsCheck, IsInstrument, IsRun}
use Rattle.phosphor_top.specs.Streams.{Streams}
use Rattle.phosphor_top.specs.Verdict.{Passes, Refuses, IsVerdict}
use Rattle.phosphor_top.specs.Endings.{Causes, Ends, Faults, IfTold, IsRunEnd, Obeys}
use Rattle.phosphor_top.specs.Run.{IsEnd}
use Rattle.phosphor_top.specs.Answers.{HasFailed, IsComplete, IsDone, IsDue, IsRefusal, IsRefused, Tells, Yields}
use Rattle.phosphor_top.proofs.Commanded.{one_command, never_both, never_run_and_check, never_run_and_instrument}
use Rattle.phosphor_top.proofs.VerdictOnce.{passes_or_refused, refused_by_one}
use Rattle.phosphor_top.proofs.Stops.{verdict_is_no_usage, ended, refused_at, done_passes}
use Rattle.phosphor_top.proofs.Statuses.{end_apart}

not_refusal : (status : ℕ) → status ≢ 2 → status ≢ 10 → IsRefusal status → ⊥
not_refusal status two ten is = elim is [ inl e ↦ two e | inr e ↦ ten e ]

-- a stop is one of the verdict where its status is
verdict_of : (stop : Stop) → IsRefusal (status_of stop) → IsVerdict stop
verdict_of Usage is = not_refusal 1 (λ e. omega (arith, e)) (λ e. omega (arith, e)) is
verdict_of (ListFault dir) is = not_refusal 3 (λ e. omega (arith, e)) (λ e. omega (arith, e)) is
verdict_of (ReadFault path) is = not_refusal 3 (λ e. omega (arith, e)) (λ e. omega (arith, e)) is
verdict_of InputFault is = not_refusal 3 (λ e. omega (arith, e)) (λ e. omega (arith, e)) is
verdict_of (WriteFault path) is = not_refusal 4 (λ e. omega (arith, e)) (λ e. omega (arith, e)) is
verdict_of OutputFault is = not_refusal 4 (λ e. omega (arith, e)) (λ e. omega (arith, e)) is
verdict_of Memory is = not_refusal 5 (λ e. omega (arith, e)) (λ e. omega (arith, e)) is
verdict_of _ is = tt

verdict_or_yields : (stop : Stop) → stop ≢ Usage → IsVerdict stop ⊎ Yields (status_of stop)
verdict_or_yields Usage apart = absurd (apart refl)
verdict_or_yields (ListFault dir) apart = inr (inl refl)
verdict_or_yields (ReadFault path) apart = inr (inl refl)
verdict_or_yields InputFault apart = inr (inl refl)
verdict_or_yields (WriteFault path) apart = inr (inr (inl refl))
verdict_or_yields OutputFault apart = inr (inr (inl refl))
verdict_or_yields Memory apart = inr (inr (inr refl))
verdict_or_yields _ apart = inl tt

-- ---- a refusal has its cause

end_is_no_refusal : (status : ℕ) → IsEnd status → IsRefusal status → ⊥
end_is_no_refusal status end is = not_refusal status (λ two. end_apart status 2 (λ e. omega (arith, e)) (λ e. omega (arith, e)) (λ e. omega (arith, e)) (λ e. omega (arith, e)) end two) (λ ten. end_apart status 10 (λ e. omega (arith, e)) (λ e. omega (arith, e)) (λ e. omega (arith, e)) (λ e. omega (arith, e)) end ten) is

done_is_no_refusal : (done : Done) (e f : Option (List ℕ)) (r s status : ℕ) → IsRunEnd done → Tells (Ok done) e f r s status → IsRefusal status → ⊥
done_is_no_refusal Silent e f r s status end tells is = not_refusal status (λ two. omega (arith, tells.0, two)) (λ ten. omega (arith, tells.0, ten)) is
done_is_no_refusal (Ran told lines) e f r s status end tells is =
    elim tells.1 [
      | inl t ↦ end_is_no_refusal status (subst IsEnd (sym t.0) end) is
      | inr t ↦ not_refusal status (λ two. omega (arith, t.0, two)) (λ ten. omega (arith, t.0, ten)) is
    ]

is_refused : (words : List (List ℕ)) (old new : Files) (before now : Streams) (outcome : Result Done Stop) (e f : Option (List ℕ)) (r s status : ℕ)
    → Obeys words old new before now outcome → IfOk outcome IsRunEnd → Tells outcome e f r s status → IsRefusal status → IsRefused words old e f status
is_refused words old new before now (Ok done) e f r s status obeys end tells is = absurd (done_is_no_refusal done e f r s status end tells is)
is_refused words old new before now (Err stop) e f r s status obeys end tells is =
    elim tells.1 [
      | inl t ↦
          let verdict : IsVerdict stop = verdict_of stop (subst IsRefusal t.0 is) in
          let by = ended words old new before now stop (verdict_is_no_usage stop verdict) obeys in
          record { command = by.0; spells = by.1; stop = stop; verdict = verdict; refuses = (refused_at by.0 old new before now stop verdict by.2).1; status_is = t.0; line = t.1 }
      | inr t ↦ absurd (not_refusal status (λ two. omega (arith, t.0, two)) (λ ten. omega (arith, t.0, ten)) is)
    ]

-- statuses 2 and 10 come where the verdict says
pub refused : (words : List (List ℕ)) (m n : Option Files) (before now : Streams) (outcome : Result Done Stop) (e f : Option (List ℕ)) (r s status : ℕ)
    → IfTold m n (λ old new. Obeys words old new before now outcome) → IfOk outcome IsRunEnd → Tells outcome e f r s status → IsRefusal status → IfSome m (λ files. IsRefused words files e f status)
refused words None n before now outcome e f r s status obeys end tells is = tt
refused words (Some old) None before now outcome e f r s status obeys end tells is = absurd obeys
refused words (Some old) (Some new) before now outcome e f r s status obeys end tells is = is_refused words old new before now outcome e f r s status obeys end tells is

-- ---- a refusal that is due comes

due_by : (words : List (List ℕ)) (old : Files) (command spelled : Command) (stop other : Stop) (e f : Option (List ℕ)) (status : ℕ) → Spells words command → IsVerdict stop → Refuses command old stop
    → Spells words spelled → IsVerdict other → Refuses spelled old other → status ≡ status_of other → Took e f (line_of other) → (status ≡ status_of stop) × Took e f (line_of stop)
due_by words old command spelled stop other e f status spells verdict refuses also is_verdict refuses_too is took =
    let one : spelled ≡ command = one_command words spelled command also spells in
    let same : other ≡ stop = refused_by_one command old other stop is_verdict verdict (subst (λ (c : Command). Refuses c old other) one refuses_too) refuses in
    (is ∙ ap status_of same, subst (λ (s : Stop). Took e f (line_of s)) same took)

-- a refusal of the command that the words spell comes, or a device failed, or memory ran out
due_at : (words : List (List ℕ)) (old new : Files) (before now : Streams) (command : Command) (stop other : Stop) (e f : Option (List ℕ)) (status : ℕ)
    → Spells words command → IsVerdict stop → Refuses command old stop → other ≢ Usage → Obeys words old new before now (Err other) → status ≡ status_of other → Took e f (line_of other)
    → ((status ≡ status_of stop) × Took e f (line_of stop)) ⊎ Yields status
due_at words old new before now command stop other e f status spells verdict refuses apart obeys is took =
    elim (verdict_or_yields other apart) [
      | inl also ↦
          let by = ended words old new before now other apart obeys in
          inl (due_by words old command by.0 stop other e f status spells verdict refuses by.1 also (refused_at by.0 old new before now other also by.2).1 is took)
      | inr yields ↦ inr (subst Yields (sym is) yields)
    ]

-- words that spell a command are not found to be none
no_usage : (words : List (List ℕ)) (old new : Files) (before now : Streams) (command : Command) (stop : Stop) → Spells words command → Obeys words old new before now (Err stop) → stop ≢ Usage
no_usage words old new before now command Usage spells obeys e = obeys.1 command spells
no_usage words old new before now command _ spells obeys e = cc

is_due : (words : List (List ℕ)) (old new : Files) (before now : Streams) (outcome : Result Done Stop) (e f : Option (List ℕ)) (r s status : ℕ)
    → Obeys words old new before now outcome → Tells outcome e f r s status → IsDue words old e f status
is_due words old new before now (Ok done) e f r s status obeys tells command stop spells verdict refuses =
    let one : obeys.0 ≡ command = one_command words obeys.0 command obeys.1 spells in
    absurd (passes_or_refused command old stop verdict (subst (λ (c : Command). Passes c old) one (done_passes obeys.0 old new before now done obeys.2)) refuses)
is_due words old new before now (Err other) e f r s status obeys tells command stop spells verdict refuses =
    elim tells.1 [
      | inl t ↦ due_at words old new before now command stop other e f status spells verdict refuses (no_usage words old new before now command other spells obeys) obeys t.0 t.1
      | inr t ↦ inr (inr (inl t.0))
    ]

pub due : (words : List (List ℕ)) (m n : Option Files) (before now : Streams) (outcome : Result Done Stop) (e f : Option (List ℕ)) (r s status : ℕ)
    → IfTold m n (λ old new. Obeys words old new before now outcome) → Tells outcome e f r s status → IfSome m (λ files. IsDue words files e f status)
due words None n before now outcome e f r s status obeys tells = tt
due words (Some old) None before now outcome e f r s status obeys tells = absurd obeys
due words (Some old) (Some new) before now outcome e f r s status obeys tells = is_due words old new before now outcome e f r s status obeys tells

-- ---- completeness

read_failed : (command : Command) (x y : Faults) (r s : ℕ) → Rose x.reads y.reads → HasFailed command x y r s
read_failed (Instrument paths) x y r s rose = inl rose
read_failed (Check dir) x y r s rose = inl rose
read_failed (Run program) x y r s rose = inl rose

input_failed : (words : List (List ℕ)) (command : Command) (x y : Faults) (r s : ℕ) → Spells words command → IsRun words → Rose x.input y.input → HasFailed command x y r s
input_failed words (Instrument paths) x y r s spells is rose = absurd (never_run_and_instrument words is.0 paths is.1 spells)
input_failed words (Check dir) x y r s spells is rose = absurd (never_run_and_check words is.0 dir is.1 spells)
input_failed words (Run program) x y r s spells is rose = inr (inl rose)

write_failed : (words : List (List ℕ)) (command : Command) (x y : Faults) (r s : ℕ) → Spells words command → IsInstrument words → Rose x.writes y.writes → HasFailed command x y r s
write_failed words (Instrument paths) x y r s spells is rose = inr (inl rose)
write_failed words (Check dir) x y r s spells is rose = absurd (never_both words is.0 dir is.1 spells)
write_failed words (Run program) x y r s spells is rose = absurd (never_run_and_instrument words program is.0 spells is.1)

output_failed : (words : List (List ℕ)) (command : Command) (x y : Faults) (r s : ℕ) → Spells words command → IsCheck words ⊎ IsRun words → Rose x.out y.out → HasFailed command x y r s
output_failed words (Instrument paths) x y r s spells (inl is) rose = absurd (never_both words paths is.0 spells is.1)
output_failed words (Instrument paths) x y r s spells (inr is) rose = absurd (never_run_and_instrument words is.0 paths is.1 spells)
output_failed words (Check dir) x y r s spells is rose = inr (inl rose)
output_failed words (Run program) x y r s spells is rose = inr (inr (inl rose))

line_failed : (command : Command) (x y : Faults) (r s : ℕ) → Rose r s → HasFailed command x y r s
line_failed (Instrument paths) x y r s rose = inr (inr rose)
line_failed (Check dir) x y r s rose = inr (inr rose)
line_failed (Run program) x y r s rose = inr (inr (inr rose))

-- where the verdict passes, no verdict came
no_verdict : (words : List (List ℕ)) (old new : Files) (before now : Streams) (command : Command) (stop : Stop) → Spells words command → Passes command old → IsVerdict stop
    → Obeys words old new before now (Err stop) → ⊥
no_verdict words old new before now command stop spells passes verdict obeys =
    let by = ended words old new before now stop (verdict_is_no_usage stop verdict) obeys in
    let refuses = (refused_at by.0 old new before now stop verdict by.2).1 in
    passes_or_refused command old stop verdict passes (subst (λ (c : Command). Refuses c old stop) (one_command words by.0 command by.1 spells) refuses)

complete_at : (words : List (List ℕ)) (old new : Files) (before now : Streams) (command : Command) (stop : Stop) (x y : Faults) (r s status : ℕ) → Spells words command → Passes command old
    → Obeys words old new before now (Err stop) → Causes words x y stop → status ≡ status_of stop → (HasFailed command x y r s → ⊥) → IsDone command status ⊎ (status ≡ 5)
complete_at words old new before now command Usage x y r s status spells passes obeys cause is sound = absurd (cause command spells)
complete_at words old new before now command (ListFault dir) x y r s status spells passes obeys cause is sound = absurd (sound (read_failed command x y r s cause))
complete_at words old new before now command (ReadFault path) x y r s status spells passes obeys cause is sound = absurd (sound (read_failed command x y r s cause))
complete_at words old new before now command InputFault x y r s status spells passes obeys cause is sound = absurd (sound (input_failed words command x y r s spells cause.0 cause.1))
complete_at words old new before now command (WriteFault path) x y r s status spells passes obeys cause is sound = absurd (sound (write_failed words command x y r s spells cause.0 cause.1))
complete_at words old new before now command OutputFault x y r s status spells passes obeys cause is sound = absurd (sound (output_failed words command x y r s spells cause.0 cause.1))
complete_at words old new before now command Memory x y r s status spells passes obeys cause is sound = inr is
complete_at words old new before now command stop x y r s status spells passes obeys cause is sound = absurd (no_verdict words old new before now command stop spells passes tt obeys)

-- a command that is done has one of its statuses, or its lines could not be written
done_is : (command : Command) (done : Done) (old new : Files) (before now : Streams) (e f : Option (List ℕ)) (x y : Faults) (r s status : ℕ)
    → Ends command old new before now (Ok done) → IsRunEnd done → Tells (Ok done) e f r s status → (HasFailed command x y r s → ⊥) → IsDone command status ⊎ (status ≡ 5)
done_is (Instrument paths) Silent old new before now e f x y r s status ends end tells sound = inl tells.0
done_is (Instrument paths) (Ran told lines) old new before now e f x y r s status ends end tells sound = absurd ends
done_is (Check dir) Silent old new before now e f x y r s status ends end tells sound = inl tells.0
done_is (Check dir) (Ran told lines) old new before now e f x y r s status ends end tells sound = absurd ends
done_is (Run program) Silent old new before now e f x y r s status ends end tells sound = absurd ends.answers
done_is (Run program) (Ran told lines) old new before now e f x y r s status ends end tells sound =
    elim tells.1 [
      | inl t ↦ inl (subst IsEnd (sym t.0) end)
      | inr t ↦ absurd (sound (line_failed (Run program) x y r s t.1))
    ]

is_complete : (words : List (List ℕ)) (old new : Files) (before now : Streams) (outcome : Result Done Stop) (e f : Option (List ℕ)) (x y : Faults) (r s status : ℕ)
    → Obeys words old new before now outcome → IfOk outcome IsRunEnd → Tells outcome e f r s status → IfErr outcome (Causes words x y) → IsComplete words old x y r s status
is_complete words old new before now (Ok done) e f x y r s status obeys end tells cause command spells passes sound =
    done_is command done old new before now e f x y r s status (subst (λ (c : Command). Ends c old new before now (Ok done)) (one_command words obeys.0 command obeys.1 spells) obeys.2) end tells sound
is_complete words old new before now (Err stop) e f x y r s status obeys end tells cause command spells passes sound =
    elim tells.1 [
      | inl t ↦ complete_at words old new before now command stop x y r s status spells passes obeys cause t.0 sound
      | inr t ↦ absurd (sound (line_failed command x y r s t.1))
    ]

-- where the verdict passes and no device of the command failed, it is done, or the status is 5
pub complete : (words : List (List ℕ)) (m n : Option Files) (before now : Streams) (outcome : Result Done Stop) (e f : Option (List ℕ)) (x y : Faults) (r s status : ℕ)
    → IfTold m n (λ old new. Obeys words old new before now outcome) → IfOk outcome IsRunEnd → Tells outcome e f r s status → IfErr outcome (Causes words x y) → IfSome m (λ files. IsComplete words files x y r s status)
complete words None n before now outcome e f x y r s status obeys end tells cause = tt
complete words (Some old) None before now outcome e f x y r s status obeys end tells cause = absurd obeys
complete words (Some old) (Some new) before now outcome e f x y r s status obeys end tells cause = is_complete words old new before now outcome e f x y r s status obeys end tells cause
