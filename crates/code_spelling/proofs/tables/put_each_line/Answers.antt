use Rattle.std.proofs.Common.{get_or}
use Rattle.std.proofs.lemmas.List.{get_or_default}
use Rattle.pool_names.specs.Adding.{behind, spell_each}
use Rattle.pool_names.proofs.Lists.{each_goes_on, each_is_done}
use Rattle.code_spelling.specs.Tables.{spell_line}
use Rattle.code_spelling.proofs.tables.put_each_line.Goals as goal

pub loop-row-preserved : goal.loop-row-preserved
loop-row-preserved c = λ pool.
    let at = c.loop-row in
    let total = behind c.args.out.now.items (spell_each (spell_line c.args.layout.now) c.args.lines.now pool) in
    each_goes_on (spell_line c.args.layout.now) c.args.lines.now at.row-index (get_or c.args.lines.now at.row-index (0, 0)) pool pool at.out.items c.put_line.new.out.items total c.loop-row-test.true (get_or_default c.args.lines.now at.row-index (0, 0) (get_or c.args.lines.now at.row-index (0, 0)) c.loop-row-test.true) (c.in_ok-put_line.ensures pool) (at.invariant pool)

pub returns : goal.returns
returns c = λ pool.
    let at = c.loop-row in
    each_is_done (spell_line c.args.layout.now) c.args.lines.now at.row-index pool at.out.items (behind c.args.out.now.items (spell_each (spell_line c.args.layout.now) c.args.lines.now pool)) c.loop-row-test.false (at.invariant pool)
