use Rattle.std.proofs.Common.{◌≡◌, sym, ap, to_z, of_z, to_z-of_z, w32, arith}
use Rattle.std.specs.Prelude.{false}
use Rattle.machine.specs.declared.state.Ending.TheVariants as ending
use Rattle.machine.proofs.NativeRows.{exited, exit_stuck}
use Rattle.machine.proofs.natives.exit.Goals as goal

pub returns-in_default-clause-ok : goal.returns-in_default-clause-ok
returns-in_default-clause-ok g c = λ w more n. exit_stuck g.T.Tag.none_of g.T.Tag.join_of w c.args.machine.now more n c.args.words c.requires.there c.stop.new.machine (sym c.in_default.ensures) c.stop.ensures

pub returns-clause-ok : goal.returns-clause-ok
returns-clause-ok g c = λ w more n.
    let m = c.args.machine.now in
    let v = c.in-Some.status in
    let back : to_z w32 (of_z w32 v) ≡ v = grind (arith, to_z-of_z) in
    exited g.T.Tag.none_of g.T.Tag.join_of w c.args.machine.now more n c.args.words c.requires.there v c.in-Some.field-0-1 _ (sym c.in-Some.ensures) (ap (λ z. record m { framed = false; ending = ending.Exit z }) back)
