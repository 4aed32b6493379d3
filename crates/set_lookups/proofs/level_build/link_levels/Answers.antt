use Rattle.std.proofs.Common.{◌∙◌, ◌+◌, [], sym, ap, subst, arith}
use Rattle.set_lookups.specs.Levels.{once, edge}
use Rattle.set_lookups.proofs.Placing.{Started, starts_more, starts_all, alone, none_started, edge_of}
use Rattle.set_lookups.proofs.level_build.link_levels.Goals as goal

pub loop-first-init : goal.loop-first-init
loop-first-init c = record {
  levels = alone (edge c.args.edges.now) _ c.in_ok-levels.ensures;
  started = none_started (edge c.args.firsts.now) _ _ c.new-starts.ensures;
}

pub loop-first-preserved : goal.loop-first-preserved
loop-first-preserved c =
    let n = c.loop-first.first-index in
    let put = c.in_ok-start.ensures in
    let is = c.in_ok-list.ensures ∙ ap (once []) (c.as_slice.ensures ∙ edge_of c.args.firsts.now n c.first-item.result c.loop-first-test.true c.first-item.is) in
    record {
      levels = put.grown.levels;
      started = subst (λ starts. Started (edge c.args.firsts.now) c.place.new.levels starts (n + 1)) (sym c.in_ok-push.ensures.ok) (starts_more (edge c.args.edges.now) (edge c.args.firsts.now) _ _ c.in_ok-list.list c.loop-first.starts n c.in_ok-start.start c.loop-first.invariant.started put is);
    }

pub returns : goal.returns
returns c = starts_all c.args.firsts.now (edge c.args.edges.now) _ _ c.loop-first.first-index c.loop-first.invariant.levels c.loop-first.invariant.started (omega (arith, c.loop-first-test.false))
