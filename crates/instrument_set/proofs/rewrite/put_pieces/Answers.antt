use Rattle.std.proofs.Common.{ℕ, ◌+◌, ◌++◌, drop, sym, subst}
use Rattle.instrument_set.specs.Pieces.{pieces, AllFit}
use Rattle.instrument_set.proofs.WrittenLaws.{fit_next, pieces_next, pieces_end}
use Rattle.instrument_set.proofs.rewrite.put_pieces.Goals as goal

pub put_piece-requires-clause-fits : goal.put_piece-requires-clause-fits
put_piece-requires-clause-fits c =
    let slots = c.args.rules.now.slots in
    let next = fit_next slots.locals slots.words c.args.insns.now c.loop-insn.insn-index c.loop-insn.depth c.insn-item.result c.loop-insn-test.true c.insn-item.is c.loop-insn.invariant.fit in
    next.1

pub put_piece-requires-clause-within : goal.put_piece-requires-clause-within
put_piece-requires-clause-within c =
    let slots = c.args.rules.now.slots in
    let next = fit_next slots.locals slots.words c.args.insns.now c.loop-insn.insn-index c.loop-insn.depth c.insn-item.result c.loop-insn-test.true c.insn-item.is c.loop-insn.invariant.fit in
    next.0

pub loop-insn-preserved : goal.loop-insn-preserved
loop-insn-preserved c =
    let rules = c.args.rules.now in
    let slots = rules.slots in
    let insns = c.args.insns.now in
    let i = c.loop-insn.insn-index in
    let insn = c.insn-item.result in
    let next = fit_next slots.locals slots.words insns i c.loop-insn.depth insn c.loop-insn-test.true c.insn-item.is c.loop-insn.invariant.fit in
    record {
      fit = subst (λ (d : ℕ). AllFit slots.locals slots.words (drop (i + 1) insns) d) (sym (c.in_ok-depth.ensures.deeper)) next.2;
      pieces = pieces_next slots.locals rules.marks insns (c.args.out.now ++ pieces slots.locals rules.marks insns 0) c.loop-insn.out c.put_piece.new.out i c.loop-insn.depth c.in_ok-depth.depth insn
          c.loop-insn-test.true c.insn-item.is c.loop-insn.invariant.pieces c.in_ok-depth.ensures.put (c.in_ok-depth.ensures.deeper);
    }

pub returns : goal.returns
returns c =
    let rules = c.args.rules.now in
    let insns = c.args.insns.now in
    pieces_end rules.slots.locals rules.marks insns (c.args.out.now ++ pieces rules.slots.locals rules.marks insns 0) c.loop-insn.out c.loop-insn.insn-index c.loop-insn.depth c.loop-insn-test.false c.loop-insn.invariant.pieces
