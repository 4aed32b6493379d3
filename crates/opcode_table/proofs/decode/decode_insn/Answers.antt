use Rattle.std.proofs.Common.{◌≡◌, ℕ, ◌+◌, ◌-◌, ◌<◌, ◌^◌, List, drop, length, take, get_or, subst, arith, length-drop}
use Rattle.std.proofs.lemmas.List.{get_or-drop, take_all}
use Rattle.opcode_table.specs.Fields.{u8_at}
use Rattle.opcode_table.specs.Judging.{Answers, decoding}
use Rattle.opcode_table.proofs.Refusals.{clause_unknown, clause_out_of_scope, clause_short, clause_operand, clause_order}
use Rattle.opcode_table.proofs.Laws.{clause_found, clause_only}
use Rattle.opcode_table.proofs.Formed.{clause_formed}
use Rattle.opcode_table.proofs.decode.decode_insn.Goals as goal

-- the bytes from pc on, as slicing gives them
pub returns-clause-exact : goal.returns-clause-exact
returns-clause-exact c =
    let text = drop c.args.pc c.args.code.now in
    let rest = length c.args.code.now - c.args.pc in
    let all : take rest text ≡ text = take_all rest text (omega (arith, length-drop c.args.pc c.args.code.now)) in
    subst (λ (t : List ℕ). Answers c.insn_at.result (decoding c.args.pc t)) all c.insn_at.ensures

pub returns-clause-unknown : goal.returns-clause-unknown
unfolding u8_at
returns-clause-unknown c op =
    let text = drop c.args.pc c.args.code.now in
    let fits : u8_at text 0 < 2 ^ 8 = rw get_or-drop (omega (arith, c.type_inv.code (c.args.pc + 0))) in
    clause_unknown c.args.pc text c.insn_at.result op fits (returns-clause-exact c)

pub returns-clause-out_of_scope : goal.returns-clause-out_of_scope
returns-clause-out_of_scope c op = clause_out_of_scope c.args.pc (drop c.args.pc c.args.code.now) c.insn_at.result op (returns-clause-exact c)

pub returns-clause-short : goal.returns-clause-short
returns-clause-short c =
    let text = drop c.args.pc c.args.code.now in
    let some : 0 < length text = omega (arith, length-drop c.args.pc c.args.code.now) in
    clause_short c.args.pc text c.insn_at.result some (returns-clause-exact c)

pub returns-clause-operand : goal.returns-clause-operand
returns-clause-operand c = clause_operand c.args.pc (drop c.args.pc c.args.code.now) c.insn_at.result (returns-clause-exact c)

pub returns-clause-order : goal.returns-clause-order
returns-clause-order c = clause_order c.args.pc (drop c.args.pc c.args.code.now) c.insn_at.result (returns-clause-exact c)

pub returns-clause-found : goal.returns-clause-found
returns-clause-found c = clause_found c.args.pc (drop c.args.pc c.args.code.now) c.insn_at.result (returns-clause-exact c)

pub returns-clause-only : goal.returns-clause-only
returns-clause-only c insn size le spells = clause_only c.args.pc (drop c.args.pc c.args.code.now) c.insn_at.result insn size le spells (returns-clause-exact c)

pub returns-clause-formed : goal.returns-clause-formed
returns-clause-formed c =
    let text = drop c.args.pc c.args.code.now in
    let bytes : (i : ℕ) → get_or text i 0 < 256 = λ i. rw get_or-drop (omega (arith, c.type_inv.code (c.args.pc + i))) in
    clause_formed c.args.pc text c.insn_at.result bytes (returns-clause-exact c)
