use Rattle.std.proofs.Common.{◌≡◌, drop}
use Rattle.pool_names.specs.Adding.{behind, spell_each}
use Rattle.class_spelling.specs.AttributeSpelling.{spell_class_index}
use Rattle.class_spelling.proofs.table.put_class_indices.Given as goal

-- what is left to put gives, behind the bytes so far, what the whole gives behind those before
abbrev pub invariant-loop-name : goal.invariant-loop-name
invariant-loop-name l =
    behind l.out.items (spell_each spell_class_index (drop l.name-index l.names) l.pool) ≡ behind l.initial.out.items (spell_each spell_class_index l.names l.initial.pool)
