-- The first limit of the class file format that a class passes in the spelling that is written. The limit of the constant pool is judged
-- where the pool is made.
use Rattle.std.specs.Prelude.{◌≡◌, ◌≢◌, ℕ, ◌-◌, ◌^◌, ◌||◌, ◌==◌, min, nat_lt, Bool, List, [], ◌∷◌, ◌++◌, length, map, Option, Some, None, Result, Ok, Err, option_map, option_and_then, option_to_list, if◌then◌else◌}
use Rattle.std.specs.Option.{option_or}
use Rattle.std.specs.List.{find, flat_map}
use Rattle.class_model.specs.declared.insn.Insn.{Insn}
use Rattle.class_model.specs.declared.class.CodeDef.{CodeDef}
use Rattle.class_model.specs.declared.class.MethodDef.{MethodDef}
use Rattle.class_model.specs.declared.class.ClassDef.{ClassDef}
use Rattle.class_limits.specs.declared.limit.EncodeKind.{EncodeKind}
use Rattle.class_limits.specs.declared.limit.EncodeKind.TheVariants.{Text, Count, Code, Branch, Length, Pool}
use Rattle.class_limits.specs.declared.limit.EncodeStop.{EncodeStop}
use Rattle.class_limits.specs.declared.limit.EncodeStop.TheVariants.{Limit, Memory}
use Rattle.class_limits.specs.Sizes.{code_size, offsets_of}
use Rattle.class_limits.specs.Texts.{class_texts}
use Rattle.class_limits.specs.Counts.{class_counts}
use Rattle.class_limits.specs.Branches.{far_branch, placed_insns}
use Rattle.class_limits.specs.Lengths.{class_lengths}

-- the first answer along a list
unfoldable pub first : {A B : Type 0} → (A → Option B) → List A → Option B
first f [] = None
first f (x ∷ xs) = option_or (f x) (first f xs)

-- a number is told as one of 64 bits
abbrev pub told : ℕ → ℕ
told n = min n (2 ^ 64 - 1)

-- the first number that a test holds of
abbrev pub first_that : (ℕ → Bool) → List ℕ → Option ℕ
first_that test ns = option_map told (find test ns)

-- the first number that is over a bound
unfoldable pub first_over : ℕ → List ℕ → Option ℕ
first_over most ns = first_that (nat_lt most) ns

-- the first text of over 65,535 bytes
unfoldable pub long_text : List (List ℕ) → Option ℕ
long_text texts = first_over 65535 (map length texts)

-- the methods' code, in file order
abbrev pub codes_in : MethodDef → List CodeDef
codes_in method = option_to_list method.code

-- code is not empty and has at most 65,535 bytes (JVMS 4.7.3)
abbrev pub is_bad_size : ℕ → Bool
is_bad_size n = (n == 0) || nat_lt 65535 n

-- the first code whose size is bad
unfoldable pub bad_size : List CodeDef → Option ℕ
bad_size codes = first_that is_bad_size (map code_size codes)

-- the first branch in code that leads too far
unfoldable pub far_in_code : CodeDef → Option ℕ
far_in_code code = first (far_branch (offsets_of code)) (placed_insns code)

abbrev pub limit : EncodeKind → Option ℕ → Option (EncodeKind × ℕ)
limit kind passed = option_map (λ n. (kind, n)) passed

-- ---- a row a kind

-- the text's bytes
abbrev pub text_limit : ClassDef → Option (EncodeKind × ℕ)
text_limit class = limit Text (long_text (class_texts class))

-- the count
abbrev pub count_limit : ClassDef → Option (EncodeKind × ℕ)
count_limit class = limit Count (first_over 65535 (class_counts class))

-- the code's bytes
abbrev pub code_limit : ClassDef → Option (EncodeKind × ℕ)
code_limit class = limit Code (bad_size (flat_map codes_in class.methods))

-- the branch's distance
abbrev pub branch_limit : ClassDef → Option (EncodeKind × ℕ)
branch_limit class = limit Branch (first far_in_code (flat_map codes_in class.methods))

-- the content's bytes
abbrev pub length_limit : ClassDef → Option (EncodeKind × ℕ)
length_limit class = limit Length (first_over 4294967295 (class_lengths class))

-- the kinds in this order, each over the whole class
unfoldable pub first_limit : ClassDef → Option (EncodeKind × ℕ)
first_limit class =
    option_or (text_limit class) (option_or (count_limit class) (option_or (code_limit class) (option_or (branch_limit class) (length_limit class))))

-- what a check answers, want of memory aside
abbrev pub StopsAt : EncodeStop → Option (EncodeKind × ℕ) → Type 0
StopsAt (Limit kind n) passed = passed ≡ Some (kind, n)
StopsAt Memory passed = Unit {0}

abbrev pub Tells : Result Unit EncodeStop → Option (EncodeKind × ℕ) → Type 0
Tells (Ok done) passed = passed ≡ None
Tells (Err stop) passed = StopsAt stop passed
