use Rattle.std.proofs.Common.{◌∙◌, ◌-◌, reverse, sym, ap, Some, arith, length, drop, get_or}
use Rattle.std.specs.Prelude.{option_copied, option_map}
use Rattle.std.specs.List.{list_any}
use Rattle.std.proofs.lemmas.List.{reverse-reverse}
use Rattle.set_lookups.specs.Above.{same_name}
use Rattle.set_lookups.specs.Needed.{first_again, duplicate}
use Rattle.set_lookups.specs.declared.fault.HierarchyFault.TheVariants.{Duplicate}
use Rattle.set_lookups.proofs.Names.{le_zero, names_of, no_names, one_more_name, told_more, members_more, kept_more}
use Rattle.set_lookups.proofs.duplicates.index_names.Goals as goal

pub loop-at-init : goal.loop-at-init
unfolding first_again
loop-at-init c =
    let none = no_names c.args.classes.now (length c.args.classes.now) (omega arith) in
    record {
      within = omega arith;
      told = sym (ap first_again none);
      members = λ x. ap (list_any (same_name x)) (c.new-names.ensures.empty ∙ sym none);
      kept = λ _. c.new-names.ensures.empty ∙ sym (ap reverse none);
    }

pub bounds-classes-at : goal.bounds-classes-at
bounds-classes-at c = omega (arith, c.loop-at.invariant.within, c.loop-at-test.true)

pub loop-at-preserved : goal.loop-at-preserved
loop-at-preserved c =
    let set = c.args.classes.now in
    let step = one_more_name set (c.loop-at.at - 1) c.loop-at.at c.index-classes-at.result (omega (arith, c.loop-at-test.true)) (omega (arith, c.loop-at.invariant.within, c.loop-at-test.true)) in
    let rest = names_of (drop c.loop-at.at set) in
    let name = (get_or set (c.loop-at.at - 1) c.index-classes-at.result).name in
    record {
      within = omega (arith, c.loop-at.invariant.within);
      told = told_more name rest c.loop-at.names.keys (option_copied c.loop-at.again) (option_copied c.in_ok-again.again) c.loop-at.invariant.members c.loop-at.invariant.told c.in_ok-again.ensures.told ∙ ap first_again (sym step);
      members = λ x. members_more name rest c.loop-at.names.keys c.add_name.new.names.keys c.in_ok-again.ensures.keys c.loop-at.invariant.members x ∙ ap (list_any (same_name x)) (sym step);
      kept = λ none. kept_more name rest c.loop-at.names.keys c.add_name.new.names.keys c.in_ok-again.ensures.keys c.loop-at.invariant.members c.loop-at.invariant.kept (ap first_again (sym step) ∙ none) ∙ ap reverse (sym step);
    }

pub returns-in-Some : goal.returns-in-Some
unfolding duplicate
returns-in-Some c =
    let whole = ap (λ i. first_again (names_of (drop i c.args.classes.now))) (le_zero c.loop-at-test.false) in
    let told = sym whole ∙ sym c.loop-at.invariant.told ∙ ap option_copied c.in-Some.is in
    ap (option_map Duplicate) told ∙ ap (λ name. Some (Duplicate name)) (sym c.in_ok-clone.ensures.cases)

pub returns : goal.returns
unfolding duplicate
returns c =
    let first_place = le_zero c.loop-at-test.false in
    let none = sym (ap (λ i. first_again (names_of (drop i c.args.classes.now))) first_place) ∙ sym c.loop-at.invariant.told ∙ ap option_copied c.in_default.is in
    let kept = c.loop-at.invariant.kept (ap (λ i. first_again (names_of (drop i c.args.classes.now))) first_place ∙ none) ∙ ap (λ i. reverse (names_of (drop i c.args.classes.now))) first_place in
    (none, c.reverse.ensures.keys ∙ ap reverse kept ∙ reverse-reverse (names_of c.args.classes.now))
