use Rattle.std.proofs.Common.{◌∙◌, ◌++◌, refl, sym, ap, subst, length, arith, eq-eqb}
use Rattle.std.specs.Prelude.{option_to_list}
use Rattle.set_lookups.specs.Levels.{edge, list_at, Climbs}
use Rattle.set_lookups.proofs.Lists.{no_items}
use Rattle.set_lookups.proofs.Placing.{climbs_last, placed, grown_on}
use Rattle.set_lookups.proofs.level_build.add_lists.Goals as goal

pub loop-list-init : goal.loop-list-init
loop-list-init c = λ start h. record {
  within = c.requires.within;
  grown = record { levels = c.requires.levels; kept = λ at lt. refl; longer = omega arith };
  leads = h;
}

pub loop-list-preserved : goal.loop-list-preserved
loop-list-preserved c = λ start h.
    let up = edge c.args._edges.now in
    let inv = c.loop-list.invariant start h in
    let items = c.pop.ensures.items ∙ ap (λ o. c.pop.new.self.items ++ option_to_list o) c.in-Some.is in
    let below = list_at c.loop-list.levels c.loop-list.at in
    let both = climbs_last up start c.pop.new.self.items c.in-Some.list below (subst (λ lists. Climbs up start lists below) items inv.leads) in
    let put = placed up c.loop-list.levels c.add.new.self c.in-Some.list c.loop-list.at c.in_ok-at.at inv.grown.levels inv.within both.1 c.in_ok-at.ensures in
    record {
      within = put.within;
      grown = grown_on up c.args.levels.now c.loop-list.levels c.add.new.self inv.grown put.grown;
      leads = subst (λ list. Climbs up start c.pop.new.self.items list) (sym put.is) both.0;
    }

pub returns : goal.returns
returns c = λ start h.
    let up = edge c.args._edges.now in
    let inv = c.loop-list.invariant start h in
    let none = no_items c.loop-list.left.items (eq-eqb (length c.loop-list.left.items) 0 (omega (arith, c.loop-list.left.ok, c.in_default.ensures.cases))) in
    record {
      grown = inv.grown;
      within = inv.within;
      is = sym (subst (λ lists. Climbs up start lists (list_at c.loop-list.levels c.loop-list.at)) none inv.leads);
    }
