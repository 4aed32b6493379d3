use Rattle.std.proofs.Common.{[], ◌∷◌, reverse, refl, ap, ◌∙◌, arith}
use Rattle.std.proofs.lemmas.List.{reverse-append}
use Rattle.machine.proofs.Marks.{mark_set, mark_past}
use Rattle.machine.proofs.begun.mark_one.Goals as goal

pub returns-then-at-len-clause-marked : goal.returns-then-at-len-clause-marked
returns-then-at-len-clause-marked c =
    let items = c.args.classes.now.items in
    mark_set (reverse items) (reverse c.push_reserved.new.self.items) c.args.marks.now.items _ c.args.class c.requires.marked (ap reverse c.push_reserved.ensures.items ∙ reverse-append items (c.args.class ∷ [])) refl

pub returns-else-at-len-clause-marked : goal.returns-else-at-len-clause-marked
returns-else-at-len-clause-marked c =
    let items = c.args.classes.now.items in
    mark_past (reverse items) (reverse c.push_reserved.new.self.items) c.args.marks.now.items c.args.class c.requires.marked (ap reverse c.push_reserved.ensures.items ∙ reverse-append items (c.args.class ∷ [])) (omega (arith, c.args.marks.now.ok.0))
