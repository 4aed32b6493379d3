-- The root frame's three steps, which lead to the first instruction of `main`.
use Rattle.std.proofs.Common.{◌≡◌, ℕ, ◌-◌, List, [], ◌∷◌, Option, Some, ap, ◌∙◌}
use Rattle.std.specs.Prelude.{replicate}
use Rattle.class_model.specs.declared.class.ClassDef.{ClassDef}
use Rattle.run_state.specs.declared.report.Report.{Report}
use Rattle.run_state.specs.Words.{Empty, Ref}
use Rattle.run_state.specs.State.{Method, Areas, Phase, Makes, Calls, Waits, Outside, Running, State, live, rooted}
use Rattle.run_state.specs.Looks.{Looks}
use Rattle.run_state.specs.Tags.{Tags}
use Rattle.run_state.specs.Marks.{tags_of}
use Rattle.run_state.specs.Operands.{on_some}
use Rattle.run_state.specs.Unwinding.{with_item}
use Rattle.run_state.specs.Calls.{said, entered}
use Rattle.run_state.specs.SetLooks.{first_statics}
use Rattle.run_state.specs.Step.{starts_of, to_start, beginning, empty_array, calling_main, step, run}
use Rattle.run_state.specs.Observation.{seen, start}

-- what a run has outside of its areas before its first instruction
abbrev pub outside_at : List ℕ → Phase → Outside
outside_at input phase = record { input = input; console = []; reports = []; begun = []; phase = phase }

module _ {T : Type 0} (M : Tags T) (L : Looks) (set : List ClassDef) where
  abbrev first_areas : Areas T
  first_areas = record { heap = []; statics = first_statics M.none set; literals = [] }

  -- the areas with the array of words
  abbrev pub main_areas : Areas T
  main_areas = with_item first_areas (empty_array M)

  module _ (input : List ℕ) (main : Method) (found : L.main ≡ Some main) (none : L.starts main.class ≡ []) where
    begins : step M L (start M set input) ≡ rooted (outside_at input Makes) first_areas
    begins =
        ap (λ (x : Option Method). beginning (to_start [] (starts_of L x)) (outside_at input Makes) first_areas [] (rooted (outside_at input Makes) first_areas)) found
        ∙ ap (λ (ms : List Method). beginning (to_start [] ms) (outside_at input Makes) first_areas [] (rooted (outside_at input Makes) first_areas)) none

    -- nothing is seen of the first two
    pub seen_first : seen (run M L 1 (start M set input)) ≡ record { console = []; reports = []; ending = Running }
    seen_first = ap seen begins

    pub seen_second : seen (run M L 2 (start M set input)) ≡ record { console = []; reports = []; ending = Running }
    seen_second = ap (λ (s : State T). seen (step M L s)) begins

    -- the third calls `main`
    pub enters : ((ts : List T) → M.entered main ts ≡ [])
        → run M L 3 (start M set input) ≡ live (outside_at input Waits) main_areas main 0 (Ref 0 ∷ replicate (main.locals - main.params) Empty) [] []
    enters quiet =
        ap (λ (s : State T). step M L (step M L s)) begins
        ∙ ap (λ (x : Option Method). on_some (outside_at input Calls) main_areas x (λ m. calling_main M L m (Ref 0 ∷ []) (outside_at input Waits) main_areas)) found
        ∙ ap (λ (rs : List Report). entered (said (outside_at input Waits) rs) main_areas main (Ref 0 ∷ []) []) (quiet (tags_of M L main_areas.heap (Ref 0 ∷ [])))
