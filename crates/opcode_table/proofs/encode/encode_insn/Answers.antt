use Rattle.std.proofs.Common.{drop}
use Rattle.opcode_table.specs.Writing.{spelling}
use Rattle.opcode_table.proofs.Laws.{back}
use Rattle.opcode_table.proofs.Written.{on_ok_after}
use Rattle.opcode_table.proofs.encode.encode_insn.Goals as goal

pub returns-else-is_err-clause-round_trip : goal.returns-else-is_err-clause-round_trip
returns-else-is_err-clause-round_trip c =
    on_ok_after c.put-written.result
    (λ spells code rest parts. back c.args.pc c.args.insn.now (drop c.args.pc code) (spelling c.args.pc c.args.insn.now) rest parts spells)
    c.put-written.ensures.spelled
