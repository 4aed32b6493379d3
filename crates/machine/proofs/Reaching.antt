-- Steps of a machine, one after the other.
use Rattle.std.proofs.Common.{◌≡◌, ℕ, zero, suc, ◌+◌, ◌≤◌, List, map, refl, ap, sym, subst, ◌∙◌, arith}
use Rattle.std.specs.Prelude.{Bool, true, false}
use Rattle.run_state.specs.State as state
use Rattle.run_state.specs.Looks.{Looks}
use Rattle.run_state.specs.Tags.{Tags}
use Rattle.run_state.specs.Step.{step, run}
use Rattle.machine_frames.specs.declared.frame.Frame.{Frame}
use Rattle.linked_code.specs.declared.op.Op.{Op}
use Rattle.linked_code.specs.declared.program.Program.{Program}
use Rattle.linked_code.specs.World.{World, tags_of}
use Rattle.linked_code.specs.Numbered.{method_at}
use Rattle.linked_code.specs.Links.{Links}
use Rattle.machine.specs.declared.state.Machine.{Machine}
use Rattle.machine.specs.declared.state.Ending.TheVariants as ending
use Rattle.machine.specs.declared.state.Turn.{Turn}
use Rattle.machine.specs.declared.state.Turn.TheVariants as turn
use Rattle.machine.specs.Shown.{shown, frame_of, areas_of, outside_of}
use Rattle.machine.specs.Turned.{Behind, Answers}
use Rattle.machine.specs.Ran.{Runs, RunsWithin}
use Rattle.machine.specs.Reached.{Reaches, ReachesWithin}
use Rattle.machine.proofs.Steps.{shown_live}

run_plus : {T : Type 0} (M : Tags T) (L : Looks) (a b c : ℕ) (s : state.State T) → c ≡ a + b → run M L c s ≡ run M L b (run M L a s)
run_plus M L zero b c s e = let same : c ≡ b = omega arith in ap (λ n. run M L n s) same
run_plus M L (suc a) b c s e = let more : c ≡ suc (a + b) = omega arith in ap (λ n. run M L n s) more ∙ run_plus M L a b (a + b) (step M L s) refl

module _ {T : Type 0} (none : T) (join : T → T → T) (p : Program T) (closed : Bool) where
  pub reaches_itself : (m : Machine T) → Reaches none join p closed m m 0
  reaches_itself m = record { by = λ w more links behind. refl }

  pub reaches_then : (a b c : Machine T) (n k j : ℕ) → Reaches none join p closed a b n → Reaches none join p closed b c k → j ≡ n + k → Reaches none join p closed a c j
  reaches_then a b c n k j x y e = record {
    by = λ w more links behind.
        y.by w more links behind
        ∙ ap (run (tags_of none join w) w.looks k) (x.by w more links behind)
        ∙ sym (run_plus (tags_of none join w) w.looks n k j (shown w a more) e);
  }

  pub reaches_one : (a b : Machine T) → ((w : World T) (more : List ℕ) → Links none w p → Behind closed more → shown w b more ≡ step (tags_of none join w) w.looks (shown w a more)) → Reaches none join p closed a b 1
  reaches_one a b h = record { by = λ w more links behind. h w more links behind }

  -- steps of the top frame alone
  pub frame_ran : (m new : Machine T) (g : Frame T) (code : List Op) (n : ℕ) → m.framed ≡ true → m.ending ≡ ending.Running → code ≡ (method_at p m.top.method).code → Runs none join code m.top n false g
      → new ≡ record m { top = g } → Reaches none join p closed m new n
  frame_ran m new g code n framed running is ran now = record {
    by = λ w more links behind.
        let o = outside_of w m more in
        let ar = areas_of w m.areas in
        let below = map (frame_of w) m.below in
        ap (λ (x : Machine T). shown w x more) now
        ∙ shown_live none join w (record m { top = g }) more framed running
        ∙ sym (ap (run (tags_of none join w) w.looks n) (shown_live none join w m more framed running) ∙ ran.by w p o ar below links (sym is));
  }

  pub frame_stuck : (m new : Machine T) (g : Frame T) (code : List Op) (n : ℕ) → m.framed ≡ true → m.ending ≡ ending.Running → code ≡ (method_at p m.top.method).code → Runs none join code m.top n true g
      → new ≡ record m { top = g; framed = false; ending = ending.Stuck } → Reaches none join p closed m new n
  frame_stuck m new g code n framed running is ran now = record {
    by = λ w more links behind.
        let o = outside_of w m more in
        let ar = areas_of w m.areas in
        let below = map (frame_of w) m.below in
        ap (λ (x : Machine T). shown w x more) now
        ∙ sym (ap (run (tags_of none join w) w.looks n) (shown_live none join w m more framed running) ∙ ran.by w p o ar below links (sym is));
  }

  -- one step more, or none
  pub reaches_more : (a b c : Machine T) (n j : ℕ) → Reaches none join p closed a b n → ((w : World T) (more : List ℕ) → Links none w p → Behind closed more → shown w c more ≡ step (tags_of none join w) w.looks (shown w b more)) → j ≡ n + 1
      → Reaches none join p closed a c j
  reaches_more a b c n j x h e = reaches_then a b c n 1 j x (reaches_one b c h) e

  pub reaches_kept : (a b c : Machine T) (n : ℕ) → Reaches none join p closed a b n → ((w : World T) (more : List ℕ) → Links none w p → Behind closed more → c ≡ b) → Reaches none join p closed a c n
  reaches_kept a b c n x h = record { by = λ w more links behind. ap (λ (m : Machine T). shown w m more) (h w more links behind) ∙ x.by w more links behind }

  -- by what the turn is
  pub reaches_went : (a b c : Machine T) (n j : ℕ) (now : Turn) → Reaches none join p closed a b n
      → ((w : World T) (more : List ℕ) → Links none w p → Behind closed more → Answers w b c more now (step (tags_of none join w) w.looks (shown w b more))) → now ≡ turn.Went → j ≡ n + 1
      → Reaches none join p closed a c j
  reaches_went a b c n j now x h is e =
      reaches_more a b c n j x (λ w more links behind. subst (λ (t : Turn). Answers w b c more t (step (tags_of none join w) w.looks (shown w b more))) is (h w more links behind)) e

  pub reaches_waiting : (a b c : Machine T) (n : ℕ) (now : Turn) → Reaches none join p closed a b n
      → ((w : World T) (more : List ℕ) → Links none w p → Behind closed more → Answers w b c more now (step (tags_of none join w) w.looks (shown w b more))) → now ≡ turn.Wants
      → Reaches none join p closed a c n
  reaches_waiting a b c n now x h is =
      reaches_kept a b c n x (λ w more links behind. (subst (λ (t : Turn). Answers w b c more t (step (tags_of none join w) w.looks (shown w b more))) is (h w more links behind)).0)

  pub reaches_ended : (a b c : Machine T) (n : ℕ) (now : Turn) → Reaches none join p closed a b n
      → ((w : World T) (more : List ℕ) → Links none w p → Behind closed more → Answers w b c more now (step (tags_of none join w) w.looks (shown w b more))) → now ≡ turn.Ended
      → Reaches none join p closed a c n
  reaches_ended a b c n now x h is =
      reaches_kept a b c n x (λ w more links behind. subst (λ (t : Turn). Answers w b c more t (step (tags_of none join w) w.looks (shown w b more))) is (h w more links behind))

  -- within a limit
  pub within : (a b : Machine T) (n limit : ℕ) → n ≤ limit → Reaches none join p closed a b n → ReachesWithin none join p closed a b limit
  within a b n limit few x = record { made = n; few = few; by = x }

  pub within_then : (a b c : Machine T) (n left limit : ℕ) → Reaches none join p closed a b n → ReachesWithin none join p closed b c left → n + left ≤ limit → ReachesWithin none join p closed a c limit
  within_then a b c n left limit x y few = record { made = n + y.made; few = omega (arith, y.few); by = reaches_then a b c n y.made (n + y.made) x y.by refl }

  pub frame_within : (m new : Machine T) (g : Frame T) (code : List Op) (limit : ℕ) → m.framed ≡ true → m.ending ≡ ending.Running → code ≡ (method_at p m.top.method).code → RunsWithin none join code m.top limit g
      → new ≡ record m { top = g } → ReachesWithin none join p closed m new limit
  frame_within m new g code limit framed running is ran now = record { made = ran.made; few = ran.few; by = frame_ran m new g code ran.made framed running is ran.by now }
