-- Reading the tables behind the instructions of code from left to right, with the first bad place.
use Rattle.std.specs.Prelude.{ℕ, nat_lt, List, Result, Ok}
use Rattle.std.specs.Int.{w16}
use Rattle.class_input.specs.declared.bad_class.BadKind.TheVariants.{Target}
use Rattle.class_input.specs.Reading.{Fault, Reading, ◌>>=◌, done, judging, number}
use Rattle.class_model.specs.declared.class.Handler.{Handler}
use Rattle.const_pool.specs.Pool.{Pool}
use Rattle.class_names.specs.Steps.{table, fit, at_index}
use Rattle.class_names.specs.NameReading.{optional, class_name_at}
use Rattle.insn_code.specs.Offsets.{Offsets, start_number}
use Rattle.insn_code.specs.InsnReading.{demanded, two}
use Rattle.code_tables.specs.CodeTables.{end_number}

-- an offset that stands at a place has to be that of an instruction
abbrev pub start_at : Offsets → ℕ → ℕ → Result ℕ Fault
start_at code place offset = fit place Target (start_number code.starts offset)

abbrev pub behind : ℕ → ℕ → ℕ → Result ℕ Fault
behind place start end = judging (demanded place Target (nat_lt start end)) (λ _. Ok end)

-- an end that stands at a place has to be behind the start
unfoldable pub end_at : Offsets → ℕ → ℕ → ℕ → Result ℕ Fault
end_at code start place offset = judging (fit place Target (end_number code offset)) (behind place start)

unfoldable pub handler : Pool → Offsets → Reading Handler
handler p code = do
  start ← at_index (start_at code)
  end ← at_index (end_at code start)
  target ← at_index (start_at code)
  caught ← at_index (optional (class_name_at p))
  done (record { start = start; end = end; target = target; caught = caught })

abbrev pub handlers : Pool → Offsets → Reading (List Handler)
handlers p code = table (handler p code)

unfoldable pub line : Offsets → Reading (ℕ × ℕ)
line code = two (at_index (start_at code)) (number w16)

abbrev pub lines : Offsets → Reading (List (ℕ × ℕ))
lines code = table (line code)
