use Rattle.std.proofs.Common.{[], sym, ap, ◌∙◌}
use Rattle.std.proofs.lemmas.Bool.{false≢true}
use Rattle.machine.specs.Beginning.{with_blanks, with_classes}
use Rattle.machine.proofs.Laying.{blanks_some, begins_with}
use Rattle.machine.proofs.beginning.begin.Goals as goal

pub begin_with-requires : goal.begin_with-requires
begin_with-requires g c = record {
  some = λ e. blanks_some c.args.program.now c.in_ok-waiting.waiting (λ h. false≢true (c.if-is_empty.ensures.1 h)) (sym (c.in_ok-frames.ensures ∙ ap (λ ns. with_blanks c.args.program.now ns []) c.as_slice.ensures) ∙ e);
}

pub returns-clause-ok : goal.returns-clause-ok
returns-clause-ok g c =
    let p = c.args.program.now in
    begins_with p c.args.starts.now c.in_ok-waiting.waiting c.args.machine.now c.begin_with.new.machine c.in_ok-frames.frames.items c.as_slice-3.result.now c.in_ok-waiting.ensures (λ h. false≢true (c.if-is_empty.ensures.1 h))
    (c.in_ok-frames.ensures ∙ ap (λ ns. with_blanks p ns []) c.as_slice.ensures) (c.as_slice-3.ensures ∙ c.in_ok-classes.ensures ∙ ap (λ ns. with_classes p ns []) c.as_slice-2.ensures) c.in_ok-begin_with.ensures.ok
