-- What encoding a class answers.
use Rattle.std.specs.Prelude.{ℕ, List, Option, Some, None, Result, Ok, Err}
use Rattle.std.specs.Option.{option_or}
use Rattle.class_model.specs.declared.class.ClassDef.{ClassDef}
use Rattle.class_limits.specs.declared.limit.EncodeKind.{EncodeKind}
use Rattle.class_limits.specs.declared.limit.EncodeKind.TheVariants.{Pool}
use Rattle.class_limits.specs.Limits.{first_limit}
use Rattle.pool_names.specs.Adding.{Unfit, OutOfRange, Past}
use Rattle.class_spelling.specs.ClassSpelling.{spell_class_file}
use Rattle.code_spelling.specs.Content.{spell_code}

-- how a class is spelled, its code too
abbrev pub spell_class : ClassDef → Result (List ℕ) Unfit
spell_class class = spell_class_file spell_code class

-- the constant pool needs an index over 65,534; the number is the last index of the first entry that does not fit
abbrev pub pool_limit : Result (List ℕ) Unfit → Option (EncodeKind × ℕ)
pool_limit (Ok bytes) = None
pool_limit (Err OutOfRange) = None
pool_limit (Err (Past last)) = Some (Pool, last)

-- the limit that a class passes: the first of its sizes, else that of its constant pool
unfoldable pub limit_of : ClassDef → Option (EncodeKind × ℕ)
limit_of class = option_or (first_limit class) (pool_limit (spell_class class))
