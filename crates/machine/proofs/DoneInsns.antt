-- What an instruction makes of the machine.
use Rattle.std.proofs.Common.{◌≡◌, ℕ, List, map, Some, ap, sym, ◌∙◌, subst}
use Rattle.std.specs.Prelude.{Bool, true, false, Result, Ok, Err, IfOk}
use Rattle.class_model.specs.declared.insn.Insn.{Insn}
use Rattle.run_state.specs.State as state
use Rattle.machine_frames.specs.declared.frame.Frame.{Frame}
use Rattle.machine_frames.specs.declared.flow.Flow.{Flow}
use Rattle.machine_frames.specs.declared.flow.Flow.TheVariants as flow
use Rattle.linked_code.specs.declared.op.Op.{Op}
use Rattle.linked_code.specs.declared.program.Program.{Program}
use Rattle.linked_code.specs.World.{World}
use Rattle.linked_code.specs.Linked.{Linked}
use Rattle.linked_code.specs.Links.{Links}
use Rattle.machine.specs.declared.invoking.Aim.{Aim}
use Rattle.machine.specs.declared.state.Areas.{Areas}
use Rattle.machine.specs.declared.state.Machine.{Machine}
use Rattle.machine.specs.declared.state.Turn.{Turn}
use Rattle.linked_code.specs.Numbered.{class_at}
use Rattle.machine.specs.declared.state.Ending.TheVariants as ending
use Rattle.machine.specs.Beginning.{needed_by, waiting}
use Rattle.machine.specs.Stacked.{Begins}
use Rattle.machine.specs.Shown.{shown, frame_of, outside_of}
use Rattle.machine.specs.Acted.{IsThrow, Stays}
use Rattle.machine.specs.Aimed.{Aims}
use Rattle.machine.specs.Turned.{Answers, Prepares, turned_at}
use Rattle.machine.specs.Unwound.{done_at, aimed_at}
use Rattle.machine.proofs.Turns.{begin_turn, all_begun}

pub stays_thrown : {T : Type 0} (k : Flow) (f g : Frame T) (a b : Areas T) → IsThrow k → Stays k f a g b → (g ≡ f) × (b ≡ a)
stays_thrown flow.Next f g a b h s = absurd h
stays_thrown flow.Stuck f g a b h s = absurd h
stays_thrown (flow.Throws k) f g a b h s = s

module _ {T : Type 0} (none : T) (join : T → T → T) (w : World T) (p : Program T) (links : Links none w p) where
  pub answers_same : (old new : Machine T) (more : List ℕ) (turn : Turn) (x y : state.State T) → x ≡ y → Answers w old new more turn x → Answers w old new more turn y
  answers_same old new more turn x y e h = subst (λ (s : state.State T). Answers w old new more turn s) e h

  -- a call leads where it is aimed
  pub aimed_done : (o : Op) (m : Machine T) (more : List ℕ) (i : Insn) (aim : Aim) → Aims none join p o m.top m.areas aim → Linked w p i o → aimed_at none join w aim m more ≡ done_at none join w i m more
  aimed_done o m more i aim aims linked = sym (aims.by w i (outside_of w m more) (map (frame_of w) m.below) links linked)

  -- a result of one instruction is that of another, which is the same
  pub done_same : (m : Machine T) (more : List ℕ) (i j : Insn) → i ≡ j → done_at none join w j m more ≡ done_at none join w i m more
  done_same m more i j e = ap (λ x. done_at none join w x m more) (sym e)

  -- what needs no further class begun, or what begins
  pub prepared : (o : Op) (m new : Machine T) (more : List ℕ) (i : Insn) (n : ℕ) (starts : List ℕ) (begins : Bool) → Linked w p i o → needed_by p o ≡ Some n → starts ≡ (class_at p n).starts → Begins p starts m begins new
      → m.framed ≡ true → m.ending ≡ ending.Running → Prepares none join w i m new more begins
  prepared o m new more i n starts true linked e are begins framed running =
      begin_turn none w p links join m more i o linked n new e (subst (λ (ns : List ℕ). Begins p ns m true new) are begins) framed running
  prepared o m new more i n starts false linked e are begins framed running =
      (begins.0, all_begun none w p links join m more i o linked n e (ap (waiting p m.begun) (sym are) ∙ begins.1))

  pub begun_now : (m mid : Machine T) (more : List ℕ) (i : Insn) (begins : Bool) → begins ≡ true → Prepares none join w i m mid more begins → shown w mid more ≡ turned_at none join w i m more
  begun_now m mid more i begins e h = subst (λ (b : Bool). Prepares none join w i m mid more b) e h

  pub nothing_begun : (m mid : Machine T) (more : List ℕ) (i : Insn) (begins : Bool) → begins ≡ false → Prepares none join w i m mid more begins → (mid ≡ m) × (turned_at none join w i m more ≡ done_at none join w i m more)
  nothing_begun m mid more i begins e h = subst (λ (b : Bool). Prepares none join w i m mid more b) e h

  pub performed : (m mid new : Machine T) (more : List ℕ) (i : Insn) (turn : Turn) (next : state.State T) → mid ≡ m → turned_at none join w i m more ≡ done_at none join w i m more → turned_at none join w i m more ≡ next
      → Answers w mid new more turn (done_at none join w i mid more) → Answers w m new more turn next
  performed m mid new more i turn next same done is h =
      answers_same m new more turn (done_at none join w i m more) next (sym done ∙ is) (subst (λ (q : Machine T). Answers w q new more turn (done_at none join w i q more)) same h)

pub if_ok : {A E : Type 0} (r : Result A E) {P Q : A → Type 0} → IfOk r P → ((x : A) → P x → Q x) → IfOk r Q
if_ok (Ok x) h f = f x h
if_ok (Err e) h f = tt

pub if_both : {A E : Type 0} (r : Result A E) {P Q R : A → Type 0} → IfOk r P → IfOk r Q → ((x : A) → P x → Q x → R x) → IfOk r R
if_both (Ok x) h k f = f x h k
if_both (Err e) h k f = tt
