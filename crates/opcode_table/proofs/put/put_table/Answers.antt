use Rattle.std.proofs.Common.{◌≡◌, ◌++◌, ◌∷◌, ◌+ℤ◌, ◌-ℤ◌, length, pos, w32, ap, ◌∙◌, rules, FitsSigned}
use Rattle.std.specs.List.{flat_map}
use Rattle.std.proofs.lemmas.Int.{to_z-of_z}
use Rattle.opcode_table.specs.Writing.{i32_bytes, zeros, spelling}
use Rattle.opcode_table.proofs.SpelledSwitches.{table_spelled, high_fits}
use Rattle.opcode_table.proofs.Written.{on_ok_after, on_err_after, three, cast_number, cast_switch, kept_behind}
use Rattle.opcode_table.proofs.put.put_table.Goals as goal
use Rattle.opcode_table.proofs.put.put_table.Goals.{After-put_offsets}

-- the opcode, the padding, the default and low
first : (c : After-put_offsets) → c.put_switch.new.out.items ≡ c.args.out.now.items ++ 170 ∷ (zeros c.args.pc ++ i32_bytes c.args.default ++ i32_bytes c.args.low)
first c =
    let low : FitsSigned w32 c.args.low = search rules in
    let default : FitsSigned w32 c.args.default = search rules in
    c.in_ok-put_switch.ensures.ok ∙ cast_switch c.args.out.now.items (170 ∷ zeros c.args.pc) c.args.default c.args.low default low

-- high
second : (c : After-put_offsets) → c.put_i32.new.out.items ≡ c.put_switch.new.out.items ++ i32_bytes (c.args.low +ℤ pos (length c.args.offsets.now) -ℤ pos 1)
second c =
    let low : FitsSigned w32 c.args.low = search rules in
    let high = c.args.low +ℤ pos (length c.args.offsets.now) -ℤ pos 1 in
    let last : c.last.result ≡ high = c.last.ensures ∙ ap (λ z. z +ℤ pos (length c.args.offsets.now) -ℤ pos 1) (to_z-of_z w32 c.args.low low) in
    c.in_ok-put_i32.ensures.ok ∙ cast_number c.put_switch.new.out.items c.last.result high (high_fits c.args.low (length c.args.offsets.now) low c.requires.0 c.requires.1) last

pub returns-clause-ok : goal.returns-clause-ok
unfolding spelling
returns-clause-ok c =
    let high = c.args.low +ℤ pos (length c.args.offsets.now) -ℤ pos 1 in
    let head = 170 ∷ (zeros c.args.pc ++ i32_bytes c.args.default ++ i32_bytes c.args.low) in
    on_ok_after c.put_offsets.result
    (λ h. three c.args.out.now.items c.put_switch.new.out.items c.put_i32.new.out.items c.put_offsets.new.out.items head (i32_bytes high) (flat_map i32_bytes c.args.offsets.now) (first c) (second c) h)
    c.put_offsets.ensures.ok

pub returns-clause-spelled : goal.returns-clause-spelled
returns-clause-spelled c =
    let low : FitsSigned w32 c.args.low = search rules in
    let default : FitsSigned w32 c.args.default = search rules in
    on_ok_after c.put_offsets.result (λ fit. table_spelled c.args.pc c.args.low c.args.default c.args.offsets.now low default fit c.requires) c.put_offsets.ensures.fit

pub returns-clause-err : goal.returns-clause-err
returns-clause-err c =
    let high = c.args.low +ℤ pos (length c.args.offsets.now) -ℤ pos 1 in
    let head = 170 ∷ (zeros c.args.pc ++ i32_bytes c.args.default ++ i32_bytes c.args.low) in
    on_err_after c.put_offsets.result
    (λ k. kept_behind c.args.out.now.items c.put_switch.new.out.items c.put_offsets.new.out.items head (first c) (kept_behind c.put_switch.new.out.items c.put_i32.new.out.items c.put_offsets.new.out.items (i32_bytes high) (second c) k))
    c.put_offsets.ensures.err
