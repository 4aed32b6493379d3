-- Where a throw comes to, whatever frames lie below.
use Rattle.std.proofs.Common.{◌≡◌, ℕ, List, [], ◌∷◌, Some, None}
use Rattle.run_state.specs.Words.{Word, Ref}
use Rattle.run_state.specs.State.{Method, Frame, Areas, Outside, InitFailed, live, ended}
use Rattle.run_state.specs.Looks.{Looks}
use Rattle.run_state.specs.Unwinding.{catching, thrown}

pub lands : {T : Type 0} (L : Looks) (o : Outside) (ar : Areas T) (c : List ℕ) (a : ℕ) (fs : List (Frame T)) (m : Method) (at : ℕ) (ls : List (Word T)) (pc : ℕ)
    → catching L c at m.handlers ≡ Some pc → thrown L o ar c a fs m at ls ≡ live o ar m pc ls (Ref a ∷ []) fs
lands L o ar c a [] m at ls pc e = cc
lands L o ar c a (f ∷ fs) m at ls pc e = cc

pub fails : {T : Type 0} (L : Looks) (o : Outside) (ar : Areas T) (c : List ℕ) (a : ℕ) (fs : List (Frame T)) (m : Method) (at : ℕ) (ls : List (Word T)) (k : List ℕ)
    → catching L c at m.handlers ≡ None → m.begins ≡ Some k → thrown L o ar c a fs m at ls ≡ ended o ar (InitFailed k c)
fails L o ar c a [] m at ls k e h = cc
fails L o ar c a (f ∷ fs) m at ls k e h = cc
