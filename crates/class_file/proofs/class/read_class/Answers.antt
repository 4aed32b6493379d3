use Rattle.std.proofs.Common.{arith}
use Rattle.class_file.proofs.ClassLaws.{is_found, is_only}
use Rattle.class_file.proofs.class.read_class.Goals as goal

pub returns-clause-found : goal.returns-clause-found
returns-clause-found g c = is_found g.C.CodeReader.is_code g.C.CodeReader.code g.met.C.CodeReader.exact c.args.bytes.now c.file.result (λ i. omega (arith, c.type_inv.bytes i)) c.file.ensures

pub returns-clause-only : goal.returns-clause-only
returns-clause-only g c = λ class is. is_only g.C.CodeReader.is_code g.C.CodeReader.code g.met.C.CodeReader.exact c.args.bytes.now c.file.result class is c.file.ensures
