-- The literals by the numbers of their texts.
use Rattle.std.specs.Prelude.{◌≡◌, ◌<◌, ◌==◌, ℕ, pos, length, List, [], ◌∷◌, ◌++◌, map, Option, Some, None, if◌then◌else◌}
use Rattle.run_state.specs.Words.{Word, Num}
use Rattle.run_state.specs.State.{Outside}
use Rattle.run_state.specs.State as state
use Rattle.run_state.specs.Objects.{literal}
use Rattle.machine_heap.specs.declared.item.Item.{Item}
use Rattle.machine_frames.specs.declared.frame.Frame.{Frame}
use Rattle.machine_frames.specs.declared.flow.Flow.{Flow}
use Rattle.linked_code.specs.declared.program.Program.{Program}
use Rattle.linked_code.specs.World.{World, tags_of}
use Rattle.linked_code.specs.Links.{Links}
use Rattle.machine.specs.declared.state.Areas.{Areas}
use Rattle.machine.specs.declared.state.Literal.{Literal}
use Rattle.machine.specs.Shown.{areas_of}
use Rattle.machine.specs.Acted.{led}

abbrev pub placed_by : List Literal → ℕ → Option ℕ
placed_by [] n = None
placed_by (l ∷ ls) n = if l.text == n then Some l.place else placed_by ls n

-- the characters of a text, as elements
abbrev pub characters : {T : Type 0} → T → List ℕ → List (Word T)
characters none units = map (λ unit. Num (pos unit) none) units

-- an array and the object of a text behind all items, and the text's literal behind all literals
abbrev pub with_literal_of : {T : Type 0} → Areas T → Item T → Item T → ℕ → Areas T
with_literal_of a array object n =
    record a { heap = (a.heap ++ array ∷ []) ++ object ∷ []; literals = a.literals ++ record { text = n; place = length (a.heap ++ array ∷ []) } ∷ [] }

-- the literal of a text of the program is pushed
pub record Gives {T : Type 0} (none : T) (join : T → T → T) (p : Program T) (n : ℕ) (f : Frame T) (a : Areas T) (flow : Flow) (g : Frame T) (b : Areas T) : Type 0 where
  pub by : (w : World T) (o : Outside) (below : List (state.Frame T)) → Links none w p → n < length p.texts
      → literal (tags_of none join w) w.looks o (areas_of w a) (w.method f.method) f.next f.locals below (w.text n) f.stack ≡ led none join w o below flow g b
