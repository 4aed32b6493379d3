-- Reading the content of a Code attribute from left to right, with the first bad place.
use Rattle.std.specs.Prelude.{ℕ, ◌+◌, ◌==◌, ◌||◌, nat_lt, List, [], ◌++◌, length, Option, None, if◌then◌else◌}
use Rattle.std.specs.Int.{w16, w32}
use Rattle.class_input.specs.declared.bad_class.BadKind.TheVariants.{CodeLength, Twice}
use Rattle.class_input.specs.Reading.{Reading, ◌>>=◌, done, refused, here, number, each, many}
use Rattle.class_model.specs.declared.class.CodeDef.{CodeDef}
use Rattle.class_model.specs.declared.class.Frame.{Frame}
use Rattle.class_model.specs.declared.class.Handler.{Handler}
use Rattle.class_model.specs.declared.class.VType.{VType}
use Rattle.const_pool.specs.Pool.{Pool}
use Rattle.class_names.specs.Steps.{at_index}
use Rattle.class_names.specs.NameReading.{bytes_at}
use Rattle.class_attributes.specs.Attributes.{is_named}
use Rattle.class_attributes.specs.AttributeReading.{content, once, kept}
use Rattle.insn_code.specs.Offsets.{Offsets}
use Rattle.insn_code.specs.Linking.{Code}
use Rattle.insn_code.specs.CodeReading.{insns}
use Rattle.code_tables.specs.TableReading.{line, handlers}
use Rattle.class_file.specs.declared.method.MethodHead.{MethodHead}
use Rattle.class_file.specs.ClassBytes.{listed}
use Rattle.frame_tables.specs.FirstFrame.{first_types}
use Rattle.frame_tables.specs.FrameReading.{frames}
use Rattle.code_attribute.specs.CodeContent.{stack_map_table, line_number_table}

-- ---- attributes of code

-- what the attributes so far gave: the frames, where there are any, and the rows of line numbers
abbrev pub Found : Type 0
Found = Option (List (ℕ × Frame)) × List (ℕ × ℕ)

abbrev pub nothing_found : Found
nothing_found = (None, [])

abbrev pub behind : {A : Type 0} → List A → Reading (List A) → Reading (List A)
behind before r = do
  more ← r
  done (before ++ more)

-- so many rows, by a count at a place, behind others
abbrev pub counted_rows : Offsets → List (ℕ × ℕ) → ℕ → ℕ → Reading (List (ℕ × ℕ))
counted_rows code before place count = if nat_lt 65535 (length before + count) then refused place Twice else behind before (many count (line code))

-- the rows of one LineNumberTable more, which is refused at its count where that brings them past 65,535
unfoldable pub more_rows : Offsets → List (ℕ × ℕ) → Reading (List (ℕ × ℕ))
more_rows code before = do
  place ← here
  count ← number w16
  counted_rows code before place count

abbrev pub with_frames : Pool → Code → List VType → ℕ → Found → Reading Found
with_frames p code first place found = do
  frames ← once place (frames p code first) found.0
  done (let after : Found = (frames, found.1) in after)

abbrev pub with_rows : Code → Found → Reading Found
with_rows code found = do
  rows ← content (more_rows code.1 found.1)
  done (let after : Found = (found.0, rows) in after)

-- one attribute more, behind those that gave `found`
unfoldable pub code_attribute : Pool → Code → List VType → Found → Reading Found
code_attribute p code first found = do
  place ← here
  name ← at_index (bytes_at p)
  if is_named stack_map_table name then with_frames p code first place found else if is_named line_number_table name then with_rows code found else kept found

unfoldable pub code_attributes : Pool → Code → List VType → Reading Found
code_attributes p code first = do
  count ← number w16
  each count (code_attribute p code first) nothing_found

-- ---- the content

abbrev pub length_of : ℕ → ℕ → Reading ℕ
length_of place n = if (n == 0) || nat_lt 65535 n then refused place CodeLength else done n

unfoldable pub code_length : Reading ℕ
code_length = do
  place ← here
  n ← number w32
  length_of place n

abbrev pub made_code : ℕ → ℕ → Code → List Handler → Found → CodeDef
made_code max_stack max_locals code handlers found = record { max_stack = max_stack; max_locals = max_locals; insns = code.0; handlers = handlers; frames = listed found.0; lines = found.1 }

unfoldable pub code_content : Pool → List ℕ → MethodHead → Reading CodeDef
code_content p class head = do
  max_stack ← number w16
  max_locals ← number w16
  len ← code_length
  code ← insns p len
  handlers ← handlers p code.1
  found ← code_attributes p code (first_types class head)
  done (made_code max_stack max_locals code handlers found)
