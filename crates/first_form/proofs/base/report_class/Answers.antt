use Rattle.first_form.specs.Base.{report_class}
use Rattle.first_form.proofs.base.report_class.Goals as goal

pub returns : goal.returns
unfolding report_class
returns c = rw (c.in_ok-methods.ensures, c.in_ok-native_method.ensures, c.in_ok-takes_three.ensures, c.new.ensures) at c.class_below.ensures
