use Rattle.std.proofs.Common.{◌∷◌, w32, refl, ◌∙◌, rules, FitsSigned}
use Rattle.opcode_table.specs.Writing.{i32_bytes, zeros}
use Rattle.opcode_table.proofs.Written.{on_ok_after, three, cast_number}
use Rattle.opcode_table.proofs.put.put_switch.Goals as goal

pub returns-clause-ok : goal.returns-clause-ok
returns-clause-ok c =
    let default : FitsSigned w32 c.args.default = search rules in
    let next : FitsSigned w32 c.args.next = search rules in
    let old = c.args.out.now.items in
    let one = c.put_padded.new.out.items in
    let two = c.put_i32.new.out.items in
    let second = c.in_ok-put_i32.ensures.ok ∙ cast_number one c.args.default c.args.default default refl in
    on_ok_after c.put_i32-2.result
    (λ h. three old one two c.put_i32-2.new.out.items (c.args.op ∷ zeros c.args.pc) (i32_bytes c.args.default) (i32_bytes c.args.next) c.in_ok-put_padded.ensures.ok second (h ∙ cast_number two c.args.next c.args.next next refl))
    c.put_i32-2.ensures.ok
