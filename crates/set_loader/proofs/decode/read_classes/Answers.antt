use Rattle.std.proofs.lemmas.Result.{err_from_is_err_and}
use Rattle.set_loader.proofs.Files.{one_more, refused_at}
use Rattle.set_loader.proofs.decode.read_classes.Goals as goal

pub returns-in_err-class : goal.returns-in_err-class
returns-in_err-class c =
    let p = err_from_is_err_and c.from_residual.result c.from_residual.ensures.1 in
    rw (p.1, p.2)
    (refused_at c.args.files.now c.loop-number.classes.items c.loop-number.number c.index-files-number.result c.in_err-class.field-0.0 c.loop-number-test.true c.index-files-number.is c.loop-number.invariant c.in_err-class.ensures)

pub loop-number-preserved : goal.loop-number-preserved
loop-number-preserved c =
    one_more c.args.files.now c.loop-number.classes.items c.push.new.self.items c.loop-number.number c.index-files-number.result c.in_ok-class.class c.loop-number-test.true c.index-files-number.is
    c.loop-number.invariant c.in_ok-class.ensures c.in_ok-push.ensures.items
