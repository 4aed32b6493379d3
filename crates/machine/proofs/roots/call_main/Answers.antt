use Rattle.std.proofs.Common.{◌-◌, [], ◌∷◌, List, replicate, refl, ap, ◌∙◌}
use Rattle.std.specs.Prelude.{true}
use Rattle.run_state.specs.Words.{Word, Empty, Ref}
use Rattle.machine_frames.specs.declared.frame.Frame.{Frame}
use Rattle.linked_code.specs.Numbered.{method_at}
use Rattle.machine.specs.declared.state.Phase.TheVariants as phase
use Rattle.machine.proofs.Stepped.{root_calls, newest_shown}
use Rattle.machine.proofs.roots.call_main.Goals as goal

pub returns-clause-ok : goal.returns-clause-ok
returns-clause-ok g c = λ w more links.
    let m = c.args.machine.now in
    let p = c.args.program.now in
    let n = c.in-Some.main in
    let place = c.saturating_sub-place.result in
    let locals : List (Word g.row.T.Denot) = Ref place ∷ replicate ((method_at p n).locals - (method_at p n).params) Empty in
    root_calls g.T.Tag.none_of g.T.Tag.join_of w p links m more c.requires.unframed c.requires.running n place locals _ c.requires.phase c.in-Some.is
    (newest_shown w m.areas.heap place (c.saturating_sub-place.ensures ∙ ap (λ k. k - 1) c.len.ensures)) refl
    (ap (λ (f : Frame g.row.T.Denot). record m { framed = true; top = f; below = c.clear.new.self; phase = phase.Waits }) c.in_ok-frame.ensures
    ∙ ap (λ (fs : List (Frame g.row.T.Denot)). record m { framed = true; top = record { method = n; next = 0; locals = locals; stack = [] }; below = fs; phase = phase.Waits }) c.clear.ensures)
