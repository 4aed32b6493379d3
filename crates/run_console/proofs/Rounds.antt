-- Steps over a source.
use Rattle.std.proofs.Common.{◌≡◌, ◌≢◌, ℕ, suc, ◌+◌, ◌-◌, ◌≤◌, ◌∙◌, true, false, List, ◌∷◌, length, Option, Some, None, is_none, inl, inr, refl, ap, sym, subst, arith}
use Rattle.run_state.specs.State.{Running}
use Rattle.run_state.specs.Observation.{plain_at}
use Rattle.run_state.proofs.RunsOn.{plain_stays}
use Rattle.machine.specs.declared.state.Turn.{Turn}
use Rattle.machine.specs.declared.state.Turn.TheVariants as turn
use Rattle.machine.specs.Turned.{FedOn}
use Rattle.machine.specs.Shown.{input_of}
use Rattle.plain_machine.specs.declared.plain_run.PlainRun.{PlainRun}
use Rattle.plain_machine.specs.Standing.{set_of, main_of, fed_of, is_closed, state_at, StandsWith, GoesOn, IsOfSame, IsOpen, HasEnded, IsWaiting, Makes, Answers, Feeds}
use Rattle.run_console.specs.Runs.{StandsBefore, Tells, Runs, Advances, IfTold, Gives}

same_state : (old new : PlainRun) (input : List ℕ) (k : ℕ) → IsOfSame old new → state_at new input k ≡ state_at old input k
same_state old new input k same = ap (λ s. plain_at s (main_of new) input k) same.0 ∙ ap (λ m. plain_at (set_of old) m input k) same.1

-- a run that stands with nothing fed
before : (run : PlainRun) (input : List ℕ) (k : ℕ) (left : List ℕ) → StandsWith run input k left → fed_of run ≡ None → StandsBefore run input k left
before run input k left s unfed = record { stands = s; unfed = unfed }

-- what its state is then
pub tells : (run : PlainRun) (input : List ℕ) (k : ℕ) (left : List ℕ) → StandsBefore run input k left → Tells run input k left
tells run input k left b = record {
  rest = ap (λ x. x.outside.input) b.stands.shows.state ∙ ap (λ f. input_of f left) b.unfed;
  console = ap (λ x. x.outside.console) b.stands.shows.state;
}

unfed_on : (old new : Option ℕ) → FedOn old new → old ≡ None → new ≡ None
unfed_on old new (inl same) e = same ∙ e
unfed_on old new (inr none) e = none

-- steps for which nothing of the source is taken
pub runs_on : (old new : PlainRun) (made : ℕ) (left : List ℕ) → GoesOn old new made → FedOn (fed_of old) (fed_of new) → Runs old new made left left
runs_on old new made left on fed input k b = before new input (k + made) left (on input k left b.stands) (unfed_on (fed_of old) (fed_of new) fed b.unfed)

stands_still : (run : PlainRun) (input : List ℕ) (k : ℕ) (left : List ℕ) → StandsBefore run input k left → StandsBefore run input (k + 0) left
stands_still run input k left b = let e : k ≡ k + 0 = omega arith in subst (λ n. StandsBefore run input n left) e b

-- a step that went
pub advances_went : (old new : PlainRun) (left : List ℕ) → Makes old new → Advances old new 1 left left
advances_went old new left m = record { runs = runs_on old new 1 left m.on m.fed; ended = λ input k b none. absurd (omega arith) }

-- an ended run
pub advances_ended : (old new : PlainRun) (left : List ℕ) → new ≡ old → HasEnded old → Advances old new 0 left left
advances_ended old new left same ended = subst (λ run. Advances old run 0 left left) (sym same) (record {
  runs = λ input k b. stands_still old input k left b;
  ended = λ input k b none. ended input k (left, b.stands);
})

-- with more steps behind
pub advances_more : (old mid new : PlainRun) (first more : ℕ) (before after : List ℕ) → first ≢ 0 → Advances old mid first before after → GoesOn mid new more → FedOn (fed_of mid) (fed_of new)
    → Advances old new (first + more) before after
advances_more old mid new first more left after some h on fed = record {
  runs = λ input k b. let e : k + first + more ≡ k + (first + more) = omega arith in
      subst (λ n. StandsBefore new input n after) e (runs_on mid new more after on fed input (k + first) (h.runs input k b));
  ended = λ input k b none. absurd (some (omega arith));
}

pub runs_none : (run : PlainRun) (left : List ℕ) → Runs run run 0 left left
runs_none run left input k b = stands_still run input k left b

pub runs_more : (old mid new : PlainRun) (made more : ℕ) (a b c : List ℕ) → Runs old mid made a b → Advances mid new more b c → Runs old new (made + more) a c
runs_more old mid new made more a b c h g input k s =
    let e : k + made + more ≡ k + (made + more) = omega arith in
    subst (λ n. StandsBefore new input n c) e (g.runs input (k + made) (h input k s))

-- an ended run stands at every later number
stays : (run : PlainRun) (input : List ℕ) (n j : ℕ) (left : List ℕ) → (state_at run input n).ending ≢ Running → StandsBefore run input n left → StandsBefore run input (n + j) left
stays run input n j left ended s =
    let e : state_at run input (n + j) ≡ state_at run input n = plain_stays (set_of run) (main_of run) input n j ended in
    record {
      stands = record { behind = s.stands.behind; shows = record { numbers = s.stands.shows.numbers; links = s.stands.shows.links; state = e ∙ s.stands.shows.state } };
      unfed = s.unfed;
    }

pub runs_ended : (old mid new : PlainRun) (made steps : ℕ) (a b c : List ℕ) → made ≤ steps → Runs old mid made a b → Advances mid new 0 b c → Runs old new steps a c
runs_ended old mid new made steps a b c few h g input k s =
    let at : StandsBefore mid input (k + made) b = h input k s in
    let zero_more : k + made + 0 ≡ k + made = omega arith in
    let e : k + made + (steps - made) ≡ k + steps = omega arith in
    subst (λ n. StandsBefore new input n c) e (stays new input (k + made) (steps - made) c (g.ended input (k + made) at refl)
    (subst (λ n. StandsBefore new input n c) zero_more (g.runs input (k + made) at)))

longer : (b : ℕ) (bs : List ℕ) → bs ≡ b ∷ bs → ⊥
longer b bs e = let n : length bs ≡ suc (length bs) = ap length e in omega arith

-- a byte that a waiting run was fed is taken in the next step
fed_taken : (old new : PlainRun) (b : ℕ) (left : List ℕ) (input : List ℕ) (k : ℕ) → IsWaiting old → IsOfSame old new → FedOn (Some b) (fed_of new)
    → StandsWith old input k (b ∷ left) → StandsWith new input (k + 1) left → fed_of new ≡ None
fed_taken old new b left input k waits same (inr none) s t = none
fed_taken old new b left input k waits same (inl still) s t =
    absurd (longer b left (
    sym (waits.takes input k b left s)
    ∙ sym (ap (λ x. x.outside.input) (same_state old new input (k + 1) same))
    ∙ ap (λ x. x.outside.input) t.shows.state
    ∙ ap (λ f. input_of f left) still))

abbrev pub made_of : Turn → ℕ
made_of turn.Went = 1
made_of turn.Wants = 0
made_of turn.Ended = 0

-- a waiting run that is fed is where it was, and goes on
stands_fed : (old fed : PlainRun) (byte : Option ℕ) (a b : List ℕ) (input : List ℕ) (k : ℕ) → Feeds byte old fed → Gives byte a b → StandsWith old input k a → StandsWith fed input k b
stands_fed old fed None a b input k feeds gives s = subst (λ l. StandsWith fed input k l) (sym gives.1) (feeds input k (subst (λ l. StandsWith old input k l) gives.0 s))
stands_fed old fed (Some x) a b input k feeds gives s = feeds input k b (subst (λ l. StandsWith old input k l) gives s)

read_went : (old fed new : PlainRun) (byte : Option ℕ) (a b : List ℕ) → IsWaiting old → Feeds byte old fed → fed_of fed ≡ byte → IsOfSame old new → Makes fed new → Gives byte a b → Runs old new 1 a b
read_went old fed new None a b waits feeds told same m gives input k s =
    before new input (k + 1) b (m.on input k b (stands_fed old fed None a b input k feeds gives s.stands)) (unfed_on (fed_of fed) (fed_of new) m.fed told)
read_went old fed new (Some x) a b waits feeds told same m gives input k s =
    let after : StandsWith new input (k + 1) b = m.on input k b (stands_fed old fed (Some x) a b input k feeds gives s.stands) in
    before new input (k + 1) b after
    (fed_taken old new x b input k waits same (subst (λ f. FedOn f (fed_of new)) told m.fed) (subst (λ l. StandsWith old input k l) gives s.stands) after)

never_open : (byte : Option ℕ) (fed : PlainRun) → fed_of fed ≡ byte → is_closed fed ≡ is_none byte → IsOpen fed → ⊥
never_open None fed told closed opened = let e : true ≡ false = sym closed ∙ opened.1 in cc
never_open (Some x) fed told closed opened = let e : Some x ≡ None = sym told ∙ opened.0 in cc

never_ended : (old fed : PlainRun) (input : List ℕ) (k : ℕ) (a b : List ℕ) → IsWaiting old → IsOfSame old fed → HasEnded fed → StandsWith old input k a → StandsWith fed input k b → ⊥
never_ended old fed input k a b waits same ended s t =
    ended input k (b, t) (ap (λ x. x.ending) (same_state old fed input k same) ∙ waits.running input k (a, s))

-- what comes of the step behind a byte that was fed
pub advances_read : (old fed new : PlainRun) (byte : Option ℕ) (t : Turn) (a b : List ℕ) → IsWaiting old → Feeds byte old fed → fed_of fed ≡ byte → is_closed fed ≡ is_none byte
    → IsOfSame old fed → IsOfSame old new → Answers fed new t → Gives byte a b → Advances old new (made_of t) a b
advances_read old fed new byte turn.Went a b waits feeds told closed same on m gives = record {
  runs = read_went old fed new byte a b waits feeds told on m gives;
  ended = λ input k s none. absurd (omega arith);
}
advances_read old fed new byte turn.Wants a b waits feeds told closed same on answers gives = absurd (never_open byte fed told closed answers.1.open)
advances_read old fed new byte turn.Ended a b waits feeds told closed same on answers gives = record {
  runs = λ input k s. absurd (never_ended old fed input k a b waits same answers.1 s.stands (stands_fed old fed byte a b input k feeds gives s.stands));
  ended = λ input k s none. absurd (never_ended old fed input k a b waits same answers.1 s.stands (stands_fed old fed byte a b input k feeds gives s.stands));
}

-- ---- where a source tells what is left

pub told_on : (l m : Option (List ℕ)) (P Q : List ℕ → List ℕ → Type 0) → IfTold l m P → ((a b : List ℕ) → P a b → Q a b) → IfTold l m Q
told_on None m P Q h on = tt
told_on (Some a) None P Q h on = h
told_on (Some a) (Some b) P Q h on = on a b h

pub told_same : (l : Option (List ℕ)) (P : List ℕ → List ℕ → Type 0) → ((a : List ℕ) → P a a) → IfTold l l P
told_same None P h = tt
told_same (Some a) P h = h a

pub told_then : (l m n : Option (List ℕ)) (P Q R : List ℕ → List ℕ → Type 0) → IfTold l m P → IfTold m n Q → ((a b c : List ℕ) → P a b → Q b c → R a c) → IfTold l n R
told_then None m n P Q R h g on = tt
told_then (Some a) None n P Q R h g on = absurd h
told_then (Some a) (Some b) None P Q R h g on = g
told_then (Some a) (Some b) (Some c) P Q R h g on = on a b c h g

-- ---- what the calls answer

pub same_then : (old mid new : PlainRun) → IsOfSame old mid → IsOfSame mid new → IsOfSame old new
same_then old mid new h g = (g.0 ∙ h.0, g.1 ∙ h.1)

pub told_read : (old fed new : PlainRun) (byte : Option ℕ) (t u : Turn) (l m : Option (List ℕ)) → IsWaiting old → Feeds byte old fed → fed_of fed ≡ byte → is_closed fed ≡ is_none byte
    → IsOfSame old fed → IsOfSame fed new → t ≡ u → Answers fed new t → IfTold l m (Gives byte) → IfTold l m (Advances old new (made_of u))
told_read old fed new byte t u l m waits feeds told closed same on is answers gives =
    told_on l m (Gives byte) (Advances old new (made_of u)) gives
    (λ a b h. advances_read old fed new byte u a b waits feeds told closed same (same_then old fed new same on) (subst (Answers fed new) is answers) h)

advances_step : (old new : PlainRun) (u : Turn) (a : List ℕ) → u ≢ turn.Wants → Answers old new u → Advances old new (made_of u) a a
advances_step old new turn.Went a h answers = advances_went old new a answers
advances_step old new turn.Wants a h answers = absurd (h refl)
advances_step old new turn.Ended a h answers = advances_ended old new a answers.0 answers.1

pub told_step : (old new : PlainRun) (t u : Turn) (l : Option (List ℕ)) → t ≡ u → u ≢ turn.Wants → Answers old new t → IfTold l l (Advances old new (made_of u))
told_step old new t u l is h answers = told_same l (Advances old new (made_of u)) (λ a. advances_step old new u a h (subst (Answers old new) is answers))

pub told_ended : (old mid new : PlainRun) (made more steps : ℕ) (l m n : Option (List ℕ)) → made ≤ steps → more ≡ 0 → IfTold l m (Runs old mid made) → IfTold m n (Advances mid new more)
    → IfTold l n (Runs old new steps)
told_ended old mid new made more steps l m n few none h g =
    told_then l m n (Runs old mid made) (Advances mid new more) (Runs old new steps) h g
    (λ a b c x y. runs_ended old mid new made steps a b c few x (subst (λ j. Advances mid new j b c) none y))

pub told_go : (old mid new : PlainRun) (first more : ℕ) (l m : Option (List ℕ)) → first ≢ 0 → IfTold l m (Advances old mid first) → GoesOn mid new more → FedOn (fed_of mid) (fed_of new)
    → IfTold l m (Advances old new (first + more))
told_go old mid new first more l m some h on fed =
    told_on l m (Advances old mid first) (Advances old new (first + more)) h (λ a b x. advances_more old mid new first more a b some x on fed)

pub told_loop : (old mid new : PlainRun) (made more : ℕ) (l m n : Option (List ℕ)) → IfTold l m (Runs old mid made) → IfTold m n (Advances mid new more) → IfTold l n (Runs old new (made + more))
told_loop old mid new made more l m n h g =
    told_then l m n (Runs old mid made) (Advances mid new more) (Runs old new (made + more)) h g (λ a b c x y. runs_more old mid new made more a b c x y)
