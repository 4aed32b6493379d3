-- The first number of size that passes its bound: class by class, within a class row by row, and within a row the methods in file
-- order. The numbers and their bounds are this project's own.
use Rattle.std.specs.Prelude.{◌≡◌, ℕ, ◌+◌, nat_lt, List, [], ◌∷◌, Option, Some, None, Result, Ok, Err, option_map, if◌then◌else◌}
use Rattle.std.specs.Option.{option_or}
use Rattle.class_model.specs.declared.class.MethodDef.{MethodDef}
use Rattle.class_model.specs.declared.class.ClassDef.{ClassDef}
use Rattle.class_limits.specs.Limits.{told}
use Rattle.run_state.specs.declared.config.Config.{Config}
use Rattle.size_limits.specs.declared.limit.LimitKind.{LimitKind}
use Rattle.size_limits.specs.declared.limit.LimitKind.TheVariants.{TextTooLong, MembersTooMany, PoolFull, ParamsTooMany, LocalsTooMany, StackTooDeep, CodeTooLong}
use Rattle.size_limits.specs.declared.limit.ClassLimit.{ClassLimit}
use Rattle.size_limits.specs.declared.limit.LimitStop.{LimitStop}
use Rattle.size_limits.specs.declared.limit.LimitStop.TheVariants.{Limit, NotBuilt, Memory}
use Rattle.size_limits.specs.Weights.{code_weight}
use Rattle.size_limits.specs.Numbers.{text_number, members_number, parameters_number, in_code, locals_number, stack_number}
use Rattle.size_limits.specs.Pool.{pool_number}

-- the first answer of items that are counted from a number on
unfoldable pub first_from : {A B : Type 0} → (ℕ → A → Option B) → ℕ → List A → Option B
first_from f at [] = None
first_from f at (x ∷ xs) = option_or (f at x) (first_from f (at + 1) xs)

-- a number that passes its bound
abbrev pub passed : LimitKind → ℕ → Option ℕ → ℕ → Option ClassLimit
passed kind bound method n = if nat_lt bound n then Some (record { kind = kind; method = method; number = told n }) else None

-- a row for the methods of a class
abbrev pub method_row : LimitKind → ℕ → (MethodDef → ℕ) → ClassDef → Option ClassLimit
method_row kind bound number class = first_from (λ at method. passed kind bound (Some at) (number method)) 0 class.methods

abbrev pub text_row : ClassDef → Option ClassLimit
text_row class = passed TextTooLong 16000 None (text_number class)

abbrev pub members_row : ClassDef → Option ClassLimit
members_row class = passed MembersTooMany 65535 None (members_number class)

abbrev pub pool_row : Config → ClassDef → Option ClassLimit
pool_row config class = passed PoolFull 65535 None (pool_number config class)

unfoldable pub parameters_row : ClassDef → Option ClassLimit
parameters_row class = method_row ParamsTooMany 255 parameters_number class

unfoldable pub locals_row : ClassDef → Option ClassLimit
locals_row class = method_row LocalsTooMany 65535 (in_code locals_number) class

unfoldable pub stack_row : ClassDef → Option ClassLimit
stack_row class = method_row StackTooDeep 65535 (in_code stack_number) class

unfoldable pub code_row : ClassDef → Option ClassLimit
code_row class = method_row CodeTooLong 65535 (in_code code_weight) class

-- the rows of methods, in order
unfoldable pub method_rows : ClassDef → Option ClassLimit
method_rows class = option_or (option_or (option_or (parameters_row class) (locals_row class)) (stack_row class)) (code_row class)

-- the rows of a class, in order
unfoldable pub class_limit : Config → ClassDef → Option ClassLimit
class_limit config class =
    option_or (text_row class) (option_or (members_row class) (option_or (pool_row config class) (method_rows class)))

abbrev pub in_class : ℕ → ClassLimit → LimitStop
in_class at limit = Limit limit.kind at limit.method limit.number

-- the first limit of a set of classes
unfoldable pub first_limit : Config → List ClassDef → Option LimitStop
first_limit config classes = first_from (λ at class. option_map (in_class at) (class_limit config class)) 0 classes

-- what a check answers, want of memory aside
abbrev pub Tells : Result Unit LimitStop → Option LimitStop → Type 0
Tells (Ok done) first = first ≡ None
Tells (Err Memory) first = Unit {0}
Tells (Err stop) first = first ≡ Some stop

-- a refusal that is no class that is not built yet
abbrev pub IsOfSize : LimitStop → Type 0
IsOfSize (Limit kind class method number) = Unit {0}
IsOfSize (NotBuilt class) = ⊥
IsOfSize Memory = Unit {0}
