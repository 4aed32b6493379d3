use Rattle.std.proofs.Common.{◌≡◌, drop}
use Rattle.pool_names.specs.Adding.{behind, spell_each}
use Rattle.code_spelling.specs.Tables.{spell_handler}
use Rattle.code_spelling.proofs.tables.put_each_handler.Given as goal

-- what is left to put gives, behind the bytes so far, what the whole gives behind those before
abbrev pub invariant-loop-handler : goal.invariant-loop-handler
invariant-loop-handler l =
    behind l.out.items (spell_each (spell_handler l.layout) (drop l.handler-index l.handlers) l.pool) ≡ behind l.initial.out.items (spell_each (spell_handler l.layout) l.handlers l.initial.pool)
