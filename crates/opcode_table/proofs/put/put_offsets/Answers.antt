use Rattle.std.proofs.Common.{◌≡◌, ◌++◌, take, get_or, pos, w32, ap, refl, ◌∙◌, rules, FitsSigned}
use Rattle.std.specs.List.{flat_map}
use Rattle.std.proofs.lemmas.Int.{to_z-of_z}
use Rattle.std.proofs.lemmas.List.Elements.{All-more}
use Rattle.opcode_table.specs.Writing.{i32_bytes, FitsI32}
use Rattle.opcode_table.proofs.Written.{on_err, kept_behind, one_more}
use Rattle.opcode_table.proofs.put.put_offsets.Goals as goal

pub returns-in_err-put_i32-clause-err : goal.returns-in_err-put_i32-clause-err
returns-in_err-put_i32-clause-err c =
    let front = flat_map i32_bytes (take c.loop-offset.offset-index c.args.offsets.now) in
    on_err c.from_residual.result (kept_behind c.args.out.now.items c.loop-offset.out.items c.put_i32.new.out.items front c.loop-offset.invariant.text c.in_err-put_i32.ensures.err)

pub loop-offset-preserved : goal.loop-offset-preserved
loop-offset-preserved c =
    let offsets = c.args.offsets.now in
    let at = c.loop-offset.offset-index in
    let x = get_or offsets at (pos 0) in
    let fits : FitsSigned w32 x = search rules in
    let written : c.put_i32.new.out.items ≡ c.loop-offset.out.items ++ i32_bytes x = c.in_ok-put_i32.ensures.ok ∙ ap (λ z. c.loop-offset.out.items ++ i32_bytes z) (to_z-of_z w32 x fits) in
    record {
      text = one_more i32_bytes offsets at x (pos 0) c.args.out.now.items c.loop-offset.out.items c.put_i32.new.out.items c.loop-offset-test.true refl c.loop-offset.invariant.text written;
      fit = All-more FitsI32 offsets at (pos 0) c.loop-offset-test.true c.loop-offset.invariant.fit fits;
    }
