use Rattle.std.proofs.Common.{◌≡◌, ◌+◌, ◌++◌, ◌∷◌, [], List, refl, sym, subst}
use Rattle.linked_code.specs.declared.program.Handler.{Handler}
use Rattle.program_links.specs.Each.{EachTo}
use Rattle.program_links.specs.MethodTo.{HandlerTo}
use Rattle.program_links.proofs.EachMore.{each_more}
use Rattle.program_links.proofs.handlers.link_handlers.Goals as goal

pub loop-at-preserved : goal.loop-at-preserved
loop-at-preserved c =
    let at = c.loop-at.at in
    let set = c.args.set.now in
    let pushed : c.push.new.self ≡ c.loop-at.linked ++ c.link_handler.result ∷ [] = c.in_ok-push.ensures.ok in
    subst (λ (linked : List Handler). EachTo (HandlerTo set) c.args.handlers.now linked (at + 1)) (sym pushed)
    (each_more (HandlerTo set) c.args.handlers.now c.loop-at.linked at (at + 1) c.at.result.now c.link_handler.result c.loop-at.invariant c.at.ensures c.link_handler.ensures refl)
