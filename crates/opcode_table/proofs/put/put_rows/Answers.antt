use Rattle.std.proofs.Common.{take, get_or, pos, w32, refl, ◌∙◌, rules, FitsSigned}
use Rattle.std.specs.List.{flat_map}
use Rattle.std.proofs.lemmas.List.Elements.{All-more}
use Rattle.opcode_table.specs.Writing.{row_bytes, RowFits}
use Rattle.opcode_table.proofs.Written.{on_err, kept_behind, one_more, cast_row}
use Rattle.opcode_table.proofs.put.put_rows.Goals as goal

pub returns-in_err-put_row-clause-err : goal.returns-in_err-put_row-clause-err
returns-in_err-put_row-clause-err c =
    let front = flat_map row_bytes (take c.loop-key.key-index c.args.rows.now) in
    on_err c.from_residual.result (kept_behind c.args.out.now.items c.loop-key.out.items c.put_row.new.out.items front c.loop-key.invariant.text c.in_err-put_row.ensures.err)

pub loop-key-preserved : goal.loop-key-preserved
loop-key-preserved c =
    let rows = c.args.rows.now in
    let at = c.loop-key.key-index in
    let x = get_or rows at (pos 0, pos 0) in
    let key : FitsSigned w32 x.0 = search rules in
    let offset : FitsSigned w32 x.1 = search rules in
    record {
      text = one_more row_bytes rows at x (pos 0, pos 0) c.args.out.now.items c.loop-key.out.items c.put_row.new.out.items c.loop-key-test.true refl c.loop-key.invariant.text (c.in_ok-put_row.ensures.ok ∙ cast_row c.loop-key.out.items x key offset);
      fit = All-more RowFits rows at (pos 0, pos 0) c.loop-key-test.true c.loop-key.invariant.fit (key, offset);
    }
