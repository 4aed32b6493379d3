use Rattle.std.proofs.Common.{◌≡◌, drop}
use Rattle.pool_names.specs.Adding.{behind, spell_each}
use Rattle.code_spelling.specs.Frames.{spell_vtype}
use Rattle.code_spelling.proofs.frames.put_each_vtype.Given as goal

-- what is left to put gives, behind the bytes so far, what the whole gives behind those before
abbrev pub invariant-loop-ty : goal.invariant-loop-ty
invariant-loop-ty l =
    behind l.out.items (spell_each (spell_vtype l.layout) (drop l.ty-index l.types) l.pool) ≡ behind l.initial.out.items (spell_each (spell_vtype l.layout) l.types l.initial.pool)
