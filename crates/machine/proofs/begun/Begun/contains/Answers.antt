use Rattle.std.proofs.Common.{sym, ap, ◌∙◌}
use Rattle.linked_code.specs.Kept.{is_among}
use Rattle.machine.proofs.Marks.{among_reversed}
use Rattle.machine.proofs.begun.Begun.contains.Goals as goal

pub returns-in-None : goal.returns-in-None
returns-in-None c =
    c.is_among.ensures
    ∙ ap (λ l. is_among l c.args.class) c.as_slice.ensures.value
    ∙ sym (among_reversed c.self.inside.classes.items c.args.class)
    ∙ ap (λ l. is_among l c.args.class) c.self.view_is
