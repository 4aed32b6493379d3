use Rattle.std.proofs.Common.{arith, ap, ◌∙◌, List, [], ◌∷◌, ◌++◌}
use Rattle.class_model.specs.declared.insn.Insn.{Insn}
use Rattle.instrument_set.specs.Pieces.{store}
use Rattle.instrument_set.proofs.WrittenLaws.{prologue_more}
use Rattle.instrument_set.proofs.rewrite.put_prologue.Goals as goal

pub loop-slot-preserved : goal.loop-slot-preserved
loop-slot-preserved c =
    prologue_more c.args.out.now c.loop-slot.out c.push-in-loop-slot.new.self c.args.slots.locals c.loop-slot.slot (omega arith) c.loop-slot.invariant
    (c.in_ok-push-2.ensures.ok ∙ ap (λ (xs : List Insn). xs ++ store c.loop-slot.slot ∷ []) c.in_ok-push.ensures.ok)
