-- What the statuses of commands that are done, and 4, say of the folder and the streams.
use Rattle.std.proofs.Common.{◌≡◌, ◌∙◌, ℕ, List, Option, Some, None, subst, arith, inl, inr}
use Rattle.std.specs.Prelude.{◌⊎◌, Result, Ok, Err}
use Rattle.outside_io.specs.Causes.{Rose}
use Rattle.class_model.specs.declared.class.ClassDef.{ClassDef}
use Rattle.outside_io.specs.Files.{Files}
use Rattle.command_parts.specs.Stops.{line_of}
use Rattle.command_parts.specs.Told.{Took}
use Rattle.command_parts.specs.declared.stop.Stop.{Stop}
use Rattle.command_parts.specs.declared.stop.Stop.TheVariants.{Usage, WriteFault}
use Rattle.phosphor_top.specs.declared.done.Done.{Done}
use Rattle.phosphor_top.specs.declared.done.Done.TheVariants.{Silent, Ran}
use Rattle.phosphor_top.specs.Commands.{Command, Instrument, Check, Run, Program, Spells}
use Rattle.phosphor_top.specs.Streams.{Streams}
use Rattle.phosphor_top.specs.Endings.{Ends, IfTold, Obeys}
use Rattle.phosphor_top.specs.Run.{IsEnd}
use Rattle.phosphor_top.specs.Answers.{Checked, HasRun, IsChecked, IsRunWhole, IsStopped, IsWhole, Tells}
use Rattle.phosphor_top.specs.Check as check
use Rattle.phosphor_top.specs.Run as run
use Rattle.run_console.specs.Runs as streams
use Rattle.phosphor_top.proofs.Commanded.{one_command}
use Rattle.phosphor_top.proofs.Statuses.{end_apart}

-- ---- status 0

no_done : (stop : Stop) (e f : Option (List ℕ)) (r s status : ℕ) → Tells (Err stop) e f r s status → status ≡ 0 → ⊥
no_done Usage e f r s status tells is = elim tells.1 [ inl t ↦ omega (arith, t.0, is) | inr t ↦ omega (arith, t.0, is) ]
no_done _ e f r s status tells is = elim tells.1 [ inl t ↦ omega (arith, t.0, is) | inr t ↦ omega (arith, t.0, is) ]

-- the command that the words spell has ended
ended_as : (words : List (List ℕ)) (old new : Files) (before now : Streams) (command : Command) (done : Done) → Spells words command → Obeys words old new before now (Ok done)
    → Ends command old new before now (Ok done)
ended_as words old new before now command done spells obeys = subst (λ (c : Command). Ends c old new before now (Ok done)) (one_command words obeys.0 command obeys.1 spells) obeys.2

-- 'instrument, whole'
pub whole : (words : List (List ℕ)) (m n : Option Files) (before now : Streams) (outcome : Result Done Stop) (e f : Option (List ℕ)) (r s status : ℕ)
    → IfTold m n (λ old new. Obeys words old new before now outcome) → Tells outcome e f r s status → status ≡ 0 → IfTold m n (IsWhole words)
whole words None n before now outcome e f r s status obeys tells is = tt
whole words (Some old) None before now outcome e f r s status obeys tells is = absurd obeys
whole words (Some old) (Some new) before now (Ok Silent) e f r s status obeys tells is = λ paths spells. ended_as words old new before now (Instrument paths) Silent spells obeys
whole words (Some old) (Some new) before now (Ok (Ran told lines)) e f r s status obeys tells is = λ paths spells. absurd (ended_as words old new before now (Instrument paths) (Ran told lines) spells obeys)
whole words (Some old) (Some new) before now (Err stop) e f r s status obeys tells is = absurd (no_done stop e f r s status tells is)

checked_as : (dir : List ℕ) (old new : Files) (before now : Option (List ℕ)) → check.Ends dir old new before now (Ok tt) → Checked dir old new before now
checked_as dir old new before now ends = record { kept = ends.kept; count = ends.answers.0; passes = ends.answers.1; line = ends.answers.2 }

-- 'check, whole'
pub checked : (words : List (List ℕ)) (m n : Option Files) (before now : Streams) (outcome : Result Done Stop) (e f : Option (List ℕ)) (r s status : ℕ)
    → IfTold m n (λ old new. Obeys words old new before now outcome) → Tells outcome e f r s status → status ≡ 0 → IfTold m n (IsChecked words before.output now.output)
checked words None n before now outcome e f r s status obeys tells is = tt
checked words (Some old) None before now outcome e f r s status obeys tells is = absurd obeys
checked words (Some old) (Some new) before now (Ok Silent) e f r s status obeys tells is =
    λ dir spells. checked_as dir old new before.output now.output (ended_as words old new before now (Check dir) Silent spells obeys)
checked words (Some old) (Some new) before now (Ok (Ran told lines)) e f r s status obeys tells is = λ dir spells. absurd (ended_as words old new before now (Check dir) (Ran told lines) spells obeys)
checked words (Some old) (Some new) before now (Err stop) e f r s status obeys tells is = absurd (no_done stop e f r s status tells is)

-- ---- a run that is done

no_end : (stop : Stop) (e f : Option (List ℕ)) (r s status : ℕ) → Tells (Err stop) e f r s status → IsEnd status → ⊥
no_end Usage e f r s status tells end =
    elim tells.1 [
      | inl t ↦ end_apart status 1 (λ x. omega (arith, x)) (λ x. omega (arith, x)) (λ x. omega (arith, x)) (λ x. omega (arith, x)) end t.0
      | inr t ↦ end_apart status 4 (λ x. omega (arith, x)) (λ x. omega (arith, x)) (λ x. omega (arith, x)) (λ x. omega (arith, x)) end t.0
    ]
no_end _ e f r s status tells end =
    elim tells.1 [
      | inl t ↦ end_apart status _ (λ x. omega (arith, x)) (λ x. omega (arith, x)) (λ x. omega (arith, x)) (λ x. omega (arith, x)) end t.0
      | inr t ↦ end_apart status 4 (λ x. omega (arith, x)) (λ x. omega (arith, x)) (λ x. omega (arith, x)) (λ x. omega (arith, x)) end t.0
    ]

leaves : (program : Program) (set : List ClassDef) (m n : Option (List ℕ)) (before now e f : Option (List ℕ)) (told status : ℕ) (lines : List ℕ) → status ≡ told → Took e f lines
    → streams.IfTold m n (λ given left. run.IsRunOf set (run.state_after program set given) left before now told lines)
    → streams.IfTold m n (λ given left. run.Leaves set (run.state_after program set given) left before now e f status)
leaves program set None n before now e f told status lines same took of = tt
leaves program set (Some given) None before now e f told status lines same took of = absurd of
leaves program set (Some given) (Some left) before now e f told status lines same took of =
    record {
      taken = of.taken;
      console = of.console;
      ending = of.ending;
      shown = of.shown;
      status_is = same ∙ of.status_is;
      lines = subst (λ (text : List ℕ). Took e f text) of.lines_are took;
    }

has_run : (program : Program) (old new : Files) (before now : Streams) (e f : Option (List ℕ)) (told : ℕ) (lines : List ℕ) (r s status : ℕ)
    → run.Ends program old new before now (Ok (Ran told lines)) → Tells (Ok (Ran told lines)) e f r s status → IsEnd status → HasRun program old new before now e f status
has_run program old new before now e f told lines r s status ends tells end =
    elim tells.1 [
      | inl t ↦ record {
        kept = ends.kept;
        set = ends.answers.0;
        passes = ends.answers.1;
        ran = leaves program ends.answers.0 before.input now.input before.output now.output e f told status lines t.0 t.1 ends.answers.2;
      }
      | inr t ↦ absurd (end_apart status 4 (λ x. omega (arith, x)) (λ x. omega (arith, x)) (λ x. omega (arith, x)) (λ x. omega (arith, x)) end t.0)
    ]

-- 'run, whole'
pub ran : (words : List (List ℕ)) (m n : Option Files) (before now : Streams) (outcome : Result Done Stop) (e f : Option (List ℕ)) (r s status : ℕ)
    → IfTold m n (λ old new. Obeys words old new before now outcome) → Tells outcome e f r s status → IsEnd status → IfTold m n (IsRunWhole words before now e f status)
ran words None n before now outcome e f r s status obeys tells end = tt
ran words (Some old) None before now outcome e f r s status obeys tells end = absurd obeys
ran words (Some old) (Some new) before now (Ok Silent) e f r s status obeys tells end = λ program spells. absurd ((ended_as words old new before now (Run program) Silent spells obeys).answers)
ran words (Some old) (Some new) before now (Ok (Ran told lines)) e f r s status obeys tells end =
    λ program spells. has_run program old new before now e f told lines r s status (ended_as words old new before now (Run program) (Ran told lines) spells obeys) tells end
ran words (Some old) (Some new) before now (Err stop) e f r s status obeys tells end = absurd (no_end stop e f r s status tells end)

-- ---- status 4

kept_after : (command : Command) (old new : Files) (before now : Streams) (told : ℕ) (lines : List ℕ) → Ends command old new before now (Ok (Ran told lines)) → new ≡ old
kept_after (Instrument paths) old new before now told lines ends = absurd ends
kept_after (Check dir) old new before now told lines ends = absurd ends
kept_after (Run program) old new before now told lines ends = ends.kept

stopped_at : (words : List (List ℕ)) (old new : Files) (before now : Streams) (command : Command) (stop : Stop) (e f : Option (List ℕ)) (r s : ℕ) → Spells words command
    → Ends command old new before now (Err stop) → Rose r s ⊎ Took e f (line_of stop) → IsStopped words e f r s old new
stopped_at words old new before now (Instrument paths) (WriteFault path) e f r s spells ends line = inr (paths, spells, path, ends, line)
stopped_at words old new before now (Instrument paths) _ e f r s spells ends line = inl ends.0
stopped_at words old new before now (Check dir) stop e f r s spells ends line = inl ends.kept
stopped_at words old new before now (Run program) stop e f r s spells ends line = inl ends.kept

left_by : (words : List (List ℕ)) (old new : Files) (before now : Streams) (stop : Stop) (e f : Option (List ℕ)) (r s : ℕ) → Obeys words old new before now (Err stop)
    → Rose r s ⊎ Took e f (line_of stop) → IsStopped words e f r s old new
left_by words old new before now Usage e f r s obeys line = inl obeys.0
left_by words old new before now stop e f r s obeys line = stopped_at words old new before now obeys.0 stop e f r s obeys.1 obeys.2 line

pub stopped : (words : List (List ℕ)) (m n : Option Files) (before now : Streams) (outcome : Result Done Stop) (e f : Option (List ℕ)) (r s status : ℕ)
    → IfTold m n (λ old new. Obeys words old new before now outcome) → Tells outcome e f r s status → status ≡ 4 → IfTold m n (IsStopped words e f r s)
stopped words None n before now outcome e f r s status obeys tells is = tt
stopped words (Some old) None before now outcome e f r s status obeys tells is = absurd obeys
stopped words (Some old) (Some new) before now (Ok Silent) e f r s status obeys tells is = absurd (omega (arith, tells.0, is))
stopped words (Some old) (Some new) before now (Ok (Ran told lines)) e f r s status obeys tells is = inl (kept_after obeys.0 old new before now told lines obeys.2)
stopped words (Some old) (Some new) before now (Err stop) e f r s status obeys tells is =
    left_by words old new before now stop e f r s obeys (elim tells.1 [ inl t ↦ inr t.1 | inr t ↦ inl t.1 ])
