use Rattle.class_file.proofs.ClassLaws.{one_of_two}
use Rattle.class_file.proofs.class.one_class.Goals as goal

pub returns : goal.returns
returns g c = one_of_two g.C.CodeReader.is_code g.C.CodeReader.code g.met.C.CodeReader.exact
