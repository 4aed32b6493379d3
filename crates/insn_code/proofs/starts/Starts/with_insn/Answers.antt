use Rattle.std.proofs.Common.{rules}
use Rattle.insn_code.proofs.Numbers.{made_numbers}
use Rattle.insn_code.proofs.starts.Starts.with_insn.Goals as goal

pub invariant_of-result : goal.invariant_of-result
invariant_of-result c =
    made_numbers c.self.inside.starts c.push.new.self c.self.inside.numbers.items c.push-2.new.self.items c.resize.new.self.items c.args.size c.len-at.result c.len-number.result
    c.self.invariant c.requires.some (search rules) (search rules) (search rules) (search rules) (search rules) (search rules)
