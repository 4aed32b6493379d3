use Rattle.std.proofs.Common.{◌<◌, length, ap, arith}
use Rattle.class_input.specs.Reading.{seen}
use Rattle.insn_code.specs.Offsets.{Offsets}
use Rattle.insn_code.proofs.CodeLaws.{insn_takes}
use Rattle.insn_code.proofs.code.next.Goals as goal

pub overflow_sub-size : goal.overflow_sub-size
overflow_sub-size c =
    let k : length c.insn.new.input.rest.now < length c.args.input.now.rest.now = insn_takes c.args.pool.now c.size-pc.result (seen c.args.input.now) (seen c.insn.new.input) c.in_ok-one.one c.are_bytes.ensures c.in_ok-one.ensures in
    omega arith

pub with_insn-requires-clause-some : goal.with_insn-requires-clause-some
with_insn-requires-clause-some c =
    let k : length c.insn.new.input.rest.now < length c.args.input.now.rest.now = insn_takes c.args.pool.now c.size-pc.result (seen c.args.input.now) (seen c.insn.new.input) c.in_ok-one.one c.are_bytes.ensures c.in_ok-one.ensures in
    omega arith

pub with_insn-requires-clause-room : goal.with_insn-requires-clause-room
with_insn-requires-clause-room c = omega (arith, c.requires)

pub returns-clause-room : goal.returns-clause-room
returns-clause-room c =
    let k : length c.insn.new.input.rest.now < length c.args.input.now.rest.now = insn_takes c.args.pool.now c.size-pc.result (seen c.args.input.now) (seen c.insn.new.input) c.in_ok-one.one c.are_bytes.ensures c.in_ok-one.ensures in
    omega (arith, c.requires, ap (λ (s : Offsets). s.size) c.in_ok-starts.ensures)
