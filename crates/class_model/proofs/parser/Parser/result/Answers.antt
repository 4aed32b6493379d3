use Rattle.class_model.proofs.Methods.{result_read}
use Rattle.class_model.proofs.parser.Parser.result.Goals as goal

pub returns : goal.returns
returns c = λ params. let no = c.if-passes.ensures.no in let f = c.in_ok-field_type.ensures in let r = result_read params _ _ _ _ f no.2 in cc
