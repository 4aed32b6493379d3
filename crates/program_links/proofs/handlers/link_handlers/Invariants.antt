use Rattle.program_links.specs.Each.{EachTo}
use Rattle.program_links.specs.MethodTo.{HandlerTo}
use Rattle.program_links.proofs.handlers.link_handlers.Given as goal

-- the handlers so far are linked
abbrev pub invariant-loop-at : goal.invariant-loop-at
invariant-loop-at l = EachTo (HandlerTo l.set) l.handlers l.linked l.at
