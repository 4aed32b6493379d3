use Rattle.class_model.proofs.Methods.{param_read}
use Rattle.class_model.proofs.parser.Parser.params.Goals as goal

pub loop-alloc-preserved : goal.loop-alloc-preserved
loop-alloc-preserved c = let no = c.loop-alloc-test.ensures.no in let f = c.in_ok-field_type.ensures in let r = param_read c.loop-alloc.params _ _ _ _ f no.2 in cc (c.in_ok-push.ensures.ok)
