use Rattle.std.proofs.Common.{◌≡◌, drop}
use Rattle.pool_names.specs.Adding.{behind, spell_each}
use Rattle.class_spelling.specs.AttributeSpelling.{spell_inner_row}
use Rattle.class_spelling.proofs.inner.put_each_row.Given as goal

-- what is left to put gives, behind the bytes so far, what the whole gives behind those before
abbrev pub invariant-loop-row : goal.invariant-loop-row
invariant-loop-row l =
    behind l.out.items (spell_each spell_inner_row (drop l.row-index l.rows) l.pool) ≡ behind l.initial.out.items (spell_each spell_inner_row l.rows l.initial.pool)
