-- What a step answers is exactly how the run stands.
use Rattle.std.proofs.Common.{◌≡◌, ◌≢◌, ℕ, List, [], ◌∷◌, Option, None, refl, ap, sym, ◌∙◌, subst, inl, inr}
use Rattle.std.specs.Prelude.{◌↔◌, Bool, false}
use Rattle.run_state.specs.State as state
use Rattle.run_state.specs.Step.{step, going}
use Rattle.run_state.specs.Tags.{Tags}
use Rattle.run_state.specs.Looks.{Looks}
use Rattle.linked_code.specs.declared.program.Program.{Program}
use Rattle.linked_code.specs.World.{World, tags_of}
use Rattle.linked_code.specs.Links.{Links}
use Rattle.machine.specs.declared.state.Ending.{Ending}
use Rattle.machine.specs.declared.state.Ending.TheVariants as ending
use Rattle.machine.specs.declared.state.Machine.{Machine}
use Rattle.machine.specs.declared.state.Turn.{Turn}
use Rattle.machine.specs.declared.state.Turn.TheVariants as turn
use Rattle.machine.specs.Shown.{shown, input_of, ending_of}
use Rattle.machine.specs.Turned.{Answers, Behind, FedOn, IsAtRest, IsWaiting, Rests, TakesNext}

longer : (b : ℕ) → (b ∷ []) ≡ [] → ⊥
longer b e = cc

-- an ended run makes no step
kept : {T : Type 0} (M : Tags T) (L : Looks) (w : World T) (e : Ending) (s : state.State T) → e ≢ ending.Running → going M L (ending_of w e) s ≡ s
kept M L w ending.Running s h = absurd (h refl)
kept M L w ending.Returned s h = refl
kept M L w (ending.Exit k) s h = refl
kept M L w (ending.Uncaught c) s h = refl
kept M L w (ending.InitFailed k c) s h = refl
kept M L w ending.Stuck s h = refl

-- what is fed, over several steps
pub fed_then : (a b c : Option ℕ) → FedOn a b → FedOn b c → FedOn a c
fed_then a b c h (inl same) = subst (λ (q : Option ℕ). FedOn a q) (sym same) h
fed_then a b c h (inr taken) = inr taken

pub fed_of : {T : Type 0} (closed : Bool) (a : Option ℕ) (old new : Machine T) (now : Turn) → old.fed ≡ a → Rests closed old new now → FedOn a new.fed
fed_of closed a old new turn.Went e h = subst (λ (q : Option ℕ). FedOn q new.fed) e h.1
fed_of {T} closed a old new turn.Wants e h = inl (ap (λ (m : Machine T). m.fed) h.0 ∙ e)
fed_of {T} closed a old new turn.Ended e h = inl (ap (λ (m : Machine T). m.fed) h.0 ∙ e)

none_left : (q r : Option ℕ) → q ≡ None → FedOn q r → r ≡ None
none_left q r e (inl same) = same ∙ e
none_left q r e (inr taken) = taken

module _ {T : Type 0} (none : T) (join : T → T → T) (p : Program T) (closed : Bool) (old new : Machine T) where
  abbrev pub Answered : Turn → Type 0
  Answered now = (w : World T) (more : List ℕ) → Links none w p → Behind closed more → Answers w old new more now (step (tags_of none join w) w.looks (shown w old more))

  open_behind : (more : List ℕ) → closed ≡ false → Behind closed more
  open_behind more e = subst (λ (b : Bool). Behind b more) (sym e) tt

  takes : Answered turn.Wants → closed ≡ false → (w : World T) → Links none w p → TakesNext none join w old
  takes h is_open w links = λ b more. (h w (b ∷ more) links (open_behind (b ∷ more) is_open)).1

  -- a step that was made with nothing fed leaves the input as it is
  leaves : Answered turn.Went → closed ≡ false → old.fed ≡ None → FedOn old.fed new.fed → (w : World T) → Links none w p → TakesNext none join w old → ⊥
  leaves h is_open nothing fed w links takes_it =
      let more = 0 ∷ [] in
      longer 0
      (ap (λ q. input_of q more) (sym (none_left old.fed new.fed nothing fed))
      ∙ ap (λ (s : state.State T). s.outside.input) (h w more links (open_behind more is_open))
      ∙ takes_it 0 [])

  stays : old.fed ≡ None → old.ending ≢ ending.Running → (w : World T) → TakesNext none join w old → ⊥
  stays nothing ends w takes_it =
      longer 0
      (ap (λ q. input_of q (0 ∷ [])) (sym nothing)
      ∙ ap (λ (s : state.State T). s.outside.input) (sym (kept (tags_of none join w) w.looks w old.ending (shown w old (0 ∷ [])) ends))
      ∙ takes_it 0 [])

  pub wants_exactly : (now : Turn) → Rests closed old new now → Answered now → (w : World T) → Links none w p → (now ≡ turn.Wants ↔ IsWaiting none join w closed old)
  wants_exactly turn.Went r h w links = (λ e. cc, λ waits. absurd (leaves h waits.1 waits.0 r.1 w links waits.2))
  wants_exactly turn.Wants r h w links = (λ e. (r.1, r.2, takes h r.2 w links), λ waits. refl)
  wants_exactly turn.Ended r h w links = (λ e. cc, λ waits. absurd (stays waits.0 r.1 w waits.2))

  -- and a run that goes no further waits, or has ended
  pub rests_waiting : (now : Turn) → Rests closed old new now → Answered now → now ≡ turn.Wants → IsAtRest none join p closed new
  rests_waiting turn.Went r h e = cc
  rests_waiting turn.Wants r h e = subst (λ (m : Machine T). IsAtRest none join p closed m) (sym r.0) (inl (r.1, r.2, λ w links. takes h r.2 w links))
  rests_waiting turn.Ended r h e = cc

  pub rests_ended : (now : Turn) → Rests closed old new now → now ≡ turn.Ended → IsAtRest none join p closed new
  rests_ended turn.Went r e = cc
  rests_ended turn.Wants r e = cc
  rests_ended turn.Ended r e = subst (λ (m : Machine T). IsAtRest none join p closed m) (sym r.0) (inr r.1)
