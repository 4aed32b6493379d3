use Rattle.std.proofs.Common.{◌≡◌, List, subst}
use Rattle.std.specs.Prelude.{IfOk}
use Rattle.class_model.specs.declared.class.ClassDef.{ClassDef}
use Rattle.first_form.proofs.FirstSets.{other_end}
use Rattle.instrument_set.proofs.Front.{front_formed, front_written}
use Rattle.instrument_set.proofs.set.written_set.Goals as goal

pub unreachable-requires : goal.unreachable-requires
unreachable-requires c = other_end c.args.set.now c.in-None.ensures c.requires

pub with_written-requires : goal.with_written-requires
with_written-requires c = front_formed c.in-Some.classes.now c.args.set.now c.in-Some.ensures c.requires

pub returns : goal.returns
returns c =
    subst (λ (classes : List ClassDef). IfOk c.with_written.result (λ written. written.items ≡ classes))
    (front_written c.args.marks c.in-Some.classes.now c.args.set.now c.in-Some.ensures) c.with_written.ensures
