use Rattle.std.proofs.Common.{◌≡◌, drop}
use Rattle.pool_names.specs.Adding.{behind, spell_each}
use Rattle.class_spelling.specs.ClassSpelling.{spell_field}
use Rattle.class_spelling.proofs.field.put_each_field.Given as goal

-- what is left to put gives, behind the bytes so far, what the whole gives behind those before
abbrev pub invariant-loop-field : goal.invariant-loop-field
invariant-loop-field l =
    behind l.out.items (spell_each spell_field (drop l.field-index l.fields) l.pool) ≡ behind l.initial.out.items (spell_each spell_field l.fields l.initial.pool)
