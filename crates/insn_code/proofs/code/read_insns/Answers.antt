use Rattle.class_input.specs.Reading.{seen}
use Rattle.insn_code.proofs.CodeLaws.{is_found, is_only}
use Rattle.insn_code.proofs.code.read_insns.Goals as goal

pub returns-clause-found : goal.returns-clause-found
returns-clause-found c = is_found c.args.pool.now c.args.len (seen c.args.input.now) c.linked_insns.result c.linked_insns.new.input c.are_bytes.ensures c.linked_insns.ensures

pub returns-clause-only : goal.returns-clause-only
returns-clause-only c = λ text rest code e is. is_only c.args.pool.now c.args.len (seen c.args.input.now) c.linked_insns.result c.linked_insns.new.input text rest code e is c.linked_insns.ensures
