-- The start of a run, the state after n steps, and what is seen of it.
use Rattle.std.specs.Prelude.{◌≡◌, ℕ, ℤ, List, [], Some}
use Rattle.class_model.specs.declared.class.ClassDef.{ClassDef}
use Rattle.run_state.specs.declared.config.Config.{Config}
use Rattle.run_state.specs.declared.report.Report.{Report}
use Rattle.run_state.specs.State.{Method, Begins, Ending, Running, State}
use Rattle.run_state.specs.Tags.{Tags, plain, tagged}
use Rattle.run_state.specs.SetLooks.{looks_of, first_statics, main_of}
use Rattle.run_state.specs.Step.{run}

-- the root frame alone, at its first step
abbrev pub start : {T : Type 0} → Tags T → List ClassDef → List ℕ → State T
start M set input = record {
  frames = [];
  areas = record { heap = []; statics = first_statics M.none set; literals = [] };
  outside = record { input = input; console = []; reports = []; begun = []; phase = Begins };
  ending = Running;
}

-- the state after n steps, on each machine
unfoldable pub plain_at : List ClassDef → (main input : List ℕ) → ℕ → State (Unit {0})
plain_at set main input n = run plain (looks_of set main) n (start plain set input)

unfoldable pub tagged_at : List ClassDef → Config → (main input : List ℕ) → ℕ → State ℤ
tagged_at set config main input n = run (tagged config) (looks_of set main) n (start (tagged config) set input)

-- what is seen of a state
pub record Seen : Type 0 where
  pub console : List ℕ
  pub reports : List Report
  pub ending : Ending

abbrev pub seen : {T : Type 0} → State T → Seen
seen s = record { console = s.outside.console; reports = s.outside.reports; ending = s.ending }

unfoldable pub plain_obs : List ClassDef → (main input : List ℕ) → ℕ → Seen
plain_obs set main input n = seen (plain_at set main input n)

unfoldable pub tagged_obs : List ClassDef → Config → (main input : List ℕ) → ℕ → Seen
tagged_obs set config main input n = seen (tagged_at set config main input n)

-- a class of this name declares a static `main([Ljava/lang/String;)V` that is not native
pub record HasMain (set : List ClassDef) (main : List ℕ) : Type 0 where
  pub method : Method
  pub found : main_of set main ≡ Some method
