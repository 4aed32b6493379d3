-- Reading the bytes of code from left to right, and then the targets of branches, with the first bad place.
use Rattle.std.specs.Prelude.{ℕ, ◌+◌, ◌-◌, ◌==◌, nat_lt, List, [], ◌∷◌, ◌++◌, length, take, drop, Result, Ok, Err, if◌then◌else◌}
use Rattle.class_input.specs.declared.bad_class.BadKind.TheVariants.{Short, Target}
use Rattle.class_input.specs.Reading.{In, Fault, Reading, bind, ◌>>=◌, done, here, lifted, judging, each}
use Rattle.class_model.specs.declared.insn.Insn.{Insn}
use Rattle.class_names.specs.Steps.{fit}
use Rattle.const_pool.specs.Pool.{Pool}
use Rattle.insn_code.specs.declared.unlinked.Unlinked.{Unlinked}
use Rattle.insn_code.specs.declared.code.Run.{Run}
use Rattle.insn_code.specs.Offsets.{Offsets}
use Rattle.insn_code.specs.InsnReading.{insn}
use Rattle.insn_code.specs.Linking.{Placed, link_placed}

-- ---- the bytes

-- a thing, and how many bytes it took
abbrev pub taken : {A : Type 0} → In → A → In → Result ((A × ℕ) × In) Fault
taken i x j = Ok ((x, length i.rest - length j.rest), j)

unfoldable pub sized : {A : Type 0} → Reading A → Reading (A × ℕ)
sized r i = bind (r i) (taken i)

-- the instructions so far with one more, which took so many bytes
abbrev pub with_insn : Run → Unlinked × ℕ → Run
with_insn run x = record {
  placed = run.placed ++ (run.starts.size, x.0) ∷ [];
  starts = record { starts = run.starts.starts ++ run.starts.size ∷ []; size = run.starts.size + x.1 };
}

abbrev pub one_insn : Pool → Run → Reading Run
one_insn p run = do
  x ← sized (insn p run.starts.size)
  done (with_insn run x)

-- one instruction more, where bytes are left
unfoldable pub next : Pool → Run → Reading Run
next p run i = if length i.rest == 0 then done run i else one_insn p run i

abbrev pub no_insn : Run
no_insn = record { placed = []; starts = record { starts = []; size = 0 } }

-- a part of n bytes: where bytes of it are missing, that is told behind what is there
abbrev pub whole : {A : Type 0} → ℕ → In → A → Reading A
whole n i x inner =
    if nat_lt (length i.rest) n
    then Err (record { place = inner.at; kind = Short })
    else Ok (x, record { at = i.at + n; rest = drop n i.rest })

-- the instructions that n bytes are: each takes a byte or more, so that n steps reach their end
unfoldable pub placed_in : Pool → ℕ → Reading Run
placed_in p n i = bind (each n (next p) no_insn (record { at = i.at; rest = take n i.rest })) (whole n i)

-- ---- the targets of branches, in the order of the instructions

abbrev pub in_front : List Insn → Result (List Insn) Fault → Result (List Insn) Fault
in_front front (Ok insns) = Ok (front ++ insns)
in_front front (Err fault) = Err fault

-- instructions of code that begins at a place; one that leads to no instruction is refused at its opcode
unfoldable pub linked : ℕ → List ℕ → List Placed → Result (List Insn) Fault
linked place starts [] = Ok []
linked place starts (x ∷ xs) = judging (fit (place + x.0) Target (link_placed starts x)) (λ insn. in_front (insn ∷ []) (linked place starts xs))

-- the code of n bytes, with the offsets of its opcodes
unfoldable pub insns : Pool → ℕ → Reading (List Insn × Offsets)
insns p n = do
  place ← here
  run ← placed_in p n
  insns ← lifted (linked place run.starts.starts run.placed)
  done (insns, run.starts)
