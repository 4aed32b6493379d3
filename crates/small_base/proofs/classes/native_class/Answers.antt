use Rattle.small_base.proofs.classes.native_class.Goals as goal

pub returns : goal.returns
returns c = rw (c.in_ok-methods.ensures, c.new.ensures) at c.class_below.ensures
