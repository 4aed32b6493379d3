use Rattle.std.proofs.Common.{◌≡◌, ◌∙◌, ap, sym, subst, cond, eqb, length, None, arith, take}
use Rattle.std.specs.Prelude.{position}
use Rattle.std.specs.Option.{option_or}
use Rattle.std.proofs.lemmas.List.{take_all}
use Rattle.set_lookups.specs.Members.{place_in, is_method_of, method_place}
use Rattle.set_lookups.proofs.Tables.{class_more}
use Rattle.set_lookups.proofs.member_table.place_methods.Goals as goal

pub put_members-requires : goal.put_members-requires
put_members-requires c = omega (arith, ap length c.as_slice-methods.ensures, (c.requires.each c.loop-number.number c.index-classes-number.result c.loop-number-test.true).methods)

pub loop-number-preserved : goal.loop-number-preserved
loop-number-preserved c = λ parts.
    let old = place_in c.loop-number.table parts in
    let own = c.in_ok-put_members.ensures parts ∙ ap (λ methods. option_or (cond (eqb c.loop-number.number parts.class) (position (λ method. is_method_of method parts) methods) None) old) (c.as_slice-methods.ensures ∙ ap (λ class. class.methods) (sym c.index-classes-number.is)) in
    class_more (λ class. position (λ method. is_method_of method parts) class.methods) c.args.classes.now c.loop-number.number parts.class c.index-classes-number.result (place_in c.put_members.new.table parts) old c.loop-number-test.true c.index-classes-number.is own (c.loop-number.invariant parts)

pub returns : goal.returns
returns c = λ parts. c.loop-number.invariant parts ∙ ap (λ classes. method_place classes parts) (take_all c.loop-number.number c.args.classes.now (omega (arith, c.loop-number-test.false)))
