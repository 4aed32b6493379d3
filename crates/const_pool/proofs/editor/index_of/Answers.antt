use Rattle.std.proofs.Common.{sym}
use Rattle.const_pool.proofs.EditorLaws.{found_row, absent_key}
use Rattle.const_pool.proofs.editor.index_of.Goals as goal

pub returns-in-None-clause-absent : goal.returns-in-None-clause-absent
returns-in-None-clause-absent c = absent_key c.args.indices.now.entries c.args.entry.now (sym c.in-None.ensures.index)

pub returns-in-Some-clause-found : goal.returns-in-Some-clause-found
returns-in-Some-clause-found c =
    let rows = c.args.indices.now.entries in
    let e = c.args.entry.now in
    found_row rows e c.in-Some.field-0-1.now c.in-Some.field-0-0 c.in-Some.index.now (sym c.in-Some.ensures.index) c.in-Some.ensures.entry
