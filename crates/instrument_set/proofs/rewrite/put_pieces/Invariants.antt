use Rattle.std.proofs.Common.{◌≡◌, ◌++◌, drop}
use Rattle.instrument_set.specs.Pieces.{pieces, AllFit}
use Rattle.instrument_set.proofs.rewrite.put_pieces.Given as goal

-- what is left fits the stack as it is now, and its pieces are to follow those that are there
abbrev pub invariant-loop-insn : goal.invariant-loop-insn
invariant-loop-insn l = record {
  fit : AllFit l.rules.slots.locals l.rules.slots.words (drop l.insn-index l.insns) l.depth;
  pieces : l.out ++ pieces l.rules.slots.locals l.rules.marks (drop l.insn-index l.insns) l.depth ≡ l.fn.out ++ pieces l.rules.slots.locals l.rules.marks l.insns 0;
}
