use Rattle.std.proofs.Common.{◌≡◌, drop}
use Rattle.const_pool.specs.Pool.{Pool}
use Rattle.pool_names.specs.Adding.{behind, spell_each}
use Rattle.code_spelling.specs.Tables.{spell_line}
use Rattle.code_spelling.proofs.tables.put_each_line.Given as goal

-- what is left to put gives, behind the bytes so far, what the whole gives behind those before
abbrev pub invariant-loop-row : goal.invariant-loop-row
invariant-loop-row l =
    (pool : Pool) → behind l.out.items (spell_each (spell_line l.layout) (drop l.row-index l.lines) pool) ≡ behind l.initial.out.items (spell_each (spell_line l.layout) l.lines pool)
