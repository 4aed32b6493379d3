use Rattle.std.proofs.Common.{sym, subst}
use Rattle.class_model.specs.declared.types.JType.{JType}
use Rattle.program_links.specs.Numbers.{Numbers, HasElementOrSelf}
use Rattle.program_links.proofs.Growing.{elements_kept}
use Rattle.program_links.proofs.tables.Tables.next_type.Goals as goal

pub invariant_of-self : goal.invariant_of-self
invariant_of-self c =
    elements_kept c.self.inside.types.keys c.put_key.new.keys.keys c.in_ok-key.key c.put_key.ensures.put c.self.invariant
    (subst (λ (k : JType). HasElementOrSelf c.self.inside.types.keys k) (sym c.in_ok-key.ensures)
    (subst (λ (v : Numbers). HasElementOrSelf v.types (record { depth = c.args.depth; base = c.args.base.now })) (sym c.self.view_is) c.requires))
