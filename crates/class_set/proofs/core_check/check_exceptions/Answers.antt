use Rattle.std.proofs.Common.{sym}
use Rattle.class_set.proofs.Thrown.{exceptions_left, throwable_told}
use Rattle.class_set.proofs.core_check.check_exceptions.Goals as goal

pub returns-in-Some : goal.returns-in-Some
returns-in-Some c = exceptions_left c.args.set.now c.check_thrown.result (sym c.in-Some.ensures.shaped) c.check_thrown.ensures

pub returns-in-None : goal.returns-in-None
returns-in-None c = throwable_told c.args.set.now c.require.result c.in-None.ensures.shaped c.require.ensures
