use Rattle.std.proofs.Common.{◌≡◌, drop}
use Rattle.pool_names.specs.Adding.{behind, spell_each}
use Rattle.class_spelling.specs.ClassSpelling.{spell_method}
use Rattle.class_spelling.proofs.method.put_each_method.Given as goal

-- what is left to put gives, behind the bytes so far, what the whole gives behind those before
abbrev pub invariant-loop-method : goal.invariant-loop-method
invariant-loop-method g l =
    behind l.out.items (spell_each (spell_method g.C.CodeWriter.spelled) (drop l.method-index l.methods) l.pool) ≡ behind l.initial.out.items (spell_each (spell_method g.C.CodeWriter.spelled) l.methods l.initial.pool)
