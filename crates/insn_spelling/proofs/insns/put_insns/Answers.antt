use Rattle.std.proofs.Common.{arith}
use Rattle.pool_names.specs.Adding.{behind}
use Rattle.insn_spelling.specs.Spelling.{spell_insns}
use Rattle.insn_spelling.proofs.Loops.{insn_writable, number_small, insns_begin, insns_go_on, insns_stop, insns_are_done}
use Rattle.insn_spelling.proofs.insns.put_insns.Goals as goal

pub loop-number-init : goal.loop-number-init
loop-number-init c = insns_begin c.args.layout.now c.args.insns.now c.args.pool.now c.args.out.now.items

pub overflow_cast-number : goal.overflow_cast-number
overflow_cast-number c = omega (arith, number_small c.args.layout.now c.args.insns.now c.requires)

pub put_insn-requires-clause-writable : goal.put_insn-requires-clause-writable
put_insn-requires-clause-writable c =
    insn_writable c.args.layout.now c.args.insns.now c.loop-number.number c.offset.result c.index-insns-number.result c.requires
    (record { lays = c.requires.laid; within = c.loop-number-test.true; is = c.index-insns-number.is; at = c.offset.ensures })

pub returns-in_err-put_insn : goal.returns-in_err-put_insn
returns-in_err-put_insn c =
    insns_stop c.in_err-put_insn.field-0.0 c.from_residual.result c.args.layout.now c.args.insns.now c.loop-number.number c.offset.result c.index-insns-number.result c.loop-number.pool c.put_insn.new.pool c.loop-number.out.items c.put_insn.new.out.items
    (behind c.args.out.now.items (spell_insns c.args.layout.now c.args.insns.now c.args.pool.now))
    (record { lays = c.requires.laid; within = c.loop-number-test.true; is = c.index-insns-number.is; at = c.offset.ensures })
    c.in_err-put_insn.ensures c.loop-number.invariant c.from_residual.ensures.1

pub loop-number-preserved : goal.loop-number-preserved
loop-number-preserved c =
    insns_go_on c.args.layout.now c.args.insns.now c.loop-number.number c.offset.result c.index-insns-number.result c.loop-number.pool c.put_insn.new.pool c.loop-number.out.items c.put_insn.new.out.items
    (behind c.args.out.now.items (spell_insns c.args.layout.now c.args.insns.now c.args.pool.now))
    (record { lays = c.requires.laid; within = c.loop-number-test.true; is = c.index-insns-number.is; at = c.offset.ensures })
    c.in_ok-put_insn.ensures c.loop-number.invariant

pub returns : goal.returns
returns c =
    insns_are_done c.args.layout.now c.args.insns.now c.loop-number.number c.loop-number.pool c.loop-number.out.items
    (behind c.args.out.now.items (spell_insns c.args.layout.now c.args.insns.now c.args.pool.now)) c.requires.laid c.loop-number-test.false c.loop-number.invariant
