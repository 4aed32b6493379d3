use Rattle.std.proofs.Common.{◌≡◌, ◌+◌, ◌++◌, ◌∷◌, [], List, refl, sym, subst}
use Rattle.linked_code.specs.declared.op.Op.{Op}
use Rattle.program_links.specs.CodeSoFar.{CodeTo}
use Rattle.program_links.proofs.Growing.{grown_further}
use Rattle.program_links.proofs.CodeLinked.{code_more}
use Rattle.program_links.proofs.linking.link_code.Goals as goal

pub loop-pc-preserved : goal.loop-pc-preserved
loop-pc-preserved c =
    let pc = c.loop-pc.pc in
    let pushed : c.push.new.self ≡ c.loop-pc.ops ++ c.in_ok-op.op ∷ [] = c.in_ok-push.ensures.ok in
    record {
      grows = grown_further c.args.tables.now c.loop-pc.tables c.link_insn.new.tables c.loop-pc.invariant.grows c.in_ok-op.ensures.grows;
      code = subst (λ (ops : List Op). CodeTo c.args.set.now c.link_insn.new.tables c.args.insns.now ops (pc + 1)) (sym pushed)
          (code_more c.args.set.now c.loop-pc.tables c.link_insn.new.tables c.args.insns.now c.loop-pc.ops pc (pc + 1) c.at.result.now c.in_ok-op.op c.loop-pc.invariant.code c.in_ok-op.ensures.grows c.at.ensures c.in_ok-op.ensures.is refl);
    }
