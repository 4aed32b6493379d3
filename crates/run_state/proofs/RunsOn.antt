-- A run goes on from where it stands, and an ended run stays.
use Rattle.std.proofs.Common.{◌≡◌, ◌≢◌, ℕ, zero, suc, ◌+◌, List, refl, ap, ◌∙◌, arith}
use Rattle.class_model.specs.declared.class.ClassDef.{ClassDef}
use Rattle.run_state.specs.declared.config.Config.{Config}
use Rattle.run_state.specs.State.{Ending, Running, Returned, Exit, Uncaught, InitFailed, Stuck, State}
use Rattle.run_state.specs.Looks.{Looks}
use Rattle.run_state.specs.Tags.{Tags, plain, tagged}
use Rattle.run_state.specs.SetLooks.{looks_of}
use Rattle.run_state.specs.Step.{going, step, run}
use Rattle.run_state.specs.Observation.{start, plain_at, tagged_at}

module _ {T : Type 0} (M : Tags T) (L : Looks) where
  pub runs_on : (n k : ℕ) (s : State T) → run M L (n + k) s ≡ run M L k (run M L n s)
  runs_on zero k s = let e : 0 + k ≡ k = omega arith in ap (λ i. run M L i s) e
  runs_on (suc n) k s = let e : suc n + k ≡ suc (n + k) = omega arith in ap (λ i. run M L i s) e ∙ runs_on n k (step M L s)

  going_stays : (e : Ending) (s : State T) → e ≢ Running → going M L e s ≡ s
  going_stays Running s h = absurd (h refl)
  going_stays Returned s h = refl
  going_stays (Exit k) s h = refl
  going_stays (Uncaught c) s h = refl
  going_stays (InitFailed k c) s h = refl
  going_stays Stuck s h = refl

  pub stays : (n : ℕ) (s : State T) → s.ending ≢ Running → run M L n s ≡ s
  stays zero s h = refl
  stays (suc n) s h = ap (run M L n) (going_stays s.ending s h) ∙ stays n s h

  stays_on : (n k : ℕ) (s : State T) → (run M L n s).ending ≢ Running → run M L (n + k) s ≡ run M L n s
  stays_on n k s h = runs_on n k s ∙ stays k (run M L n s) h

pub plain_stays : (set : List ClassDef) (main input : List ℕ) (n k : ℕ) → (plain_at set main input n).ending ≢ Running → plain_at set main input (n + k) ≡ plain_at set main input n
unfolding plain_at
plain_stays set main input n k h = stays_on plain (looks_of set main) n k (start plain set input) h

pub tagged_stays : (set : List ClassDef) (config : Config) (main input : List ℕ) (n k : ℕ) → (tagged_at set config main input n).ending ≢ Running → tagged_at set config main input (n + k) ≡ tagged_at set config main input n
unfolding tagged_at
tagged_stays set config main input n k h = stays_on (tagged config) (looks_of set main) n k (start (tagged config) set input) h
