-- Runs of written code on the plain machine.
use Rattle.std.proofs.Common.{◌≡◌, ℕ, zero, suc, ◌+◌, ℤ, List, [], ◌∷◌, ◌++◌, length, Option, Some, refl, ap, ◌∙◌, subst, arith}
use Rattle.std.specs.Prelude.{slice_get, slice_set}
use Rattle.class_model.specs.declared.types.MethodRef.{MethodRef}
use Rattle.class_model.specs.declared.insn.Kind.TheVariants as kind
use Rattle.class_model.specs.declared.insn.Width.TheVariants as width
use Rattle.class_model.specs.declared.insn.BinOp.TheVariants as operation
use Rattle.class_model.specs.declared.insn.InvokeKind.TheVariants as invoke
use Rattle.class_model.specs.declared.insn.Insn.{Insn}
use Rattle.class_model.specs.declared.insn.Insn.TheVariants.{PushInt, Bin, Invoke}
use Rattle.run_state.specs.Numbers.{int_or}
use Rattle.run_state.specs.Words.{Word, Num}
use Rattle.run_state.specs.Words as words
use Rattle.run_state.specs.State.{Method, Frame, Areas, Outside, State, live}
use Rattle.run_state.specs.Looks.{Looks}
use Rattle.run_state.specs.Tags.{Tags, plain}
use Rattle.run_state.specs.Operands.{on_some, of_kind, with_args}
use Rattle.run_state.specs.Calls.{called}
use Rattle.run_state.specs.Step.{act, needs_of, starts_of, to_start, beginning, step, run}
use Rattle.instrument_set.specs.Pieces.{load, store}
use Rattle.instrument_set.proofs.Shadow.{Bare}

-- the instructions stand in the code at this place
abbrev pub HasAt : List Insn → ℕ → List Insn → Type 0
HasAt code pc [] = Unit {0}
HasAt code pc (i ∷ is) = (slice_get code pc ≡ Some i) × HasAt code (pc + 1) is

pub has_front : (code : List Insn) (pc : ℕ) (a b : List Insn) → HasAt code pc (a ++ b) → HasAt code pc a
has_front code pc [] b h = tt
has_front code pc (i ∷ a) b h = (h.0, has_front code (pc + 1) a b h.1)

pub has_back : (code : List Insn) (pc : ℕ) (a b : List Insn) → HasAt code pc (a ++ b) → HasAt code (pc + length a) b
has_back code pc [] b h = let e : pc ≡ pc + 0 = omega arith in subst (λ n. HasAt code n b) e h
has_back code pc (i ∷ a) b h =
    let e : pc + 1 + length a ≡ pc + length (i ∷ a) = omega arith in
    subst (λ n. HasAt code n b) e (has_back code (pc + 1) a b h.1)

-- what an instruction does where its classes have begun
abbrev pub doing : {T : Type 0} → Tags T → Looks → Option Insn → Outside → Areas T → Method → ℕ → List (Word T) → List (Word T) → List (Frame T) → State T
doing M L insn o ar m pc ls st fs = beginning (to_start o.begun (needs_of L insn)) o ar (record { method = m; next = pc; locals = ls; stack = st } ∷ fs) (act M L insn o ar m pc ls st fs)

-- a static call of a method whose class needs no beginning
pub invoked : {T : Type 0} (M : Tags T) (L : Looks) (o : Outside) (ar : Areas T) (m : Method) (pc : ℕ) (ls st : List (Word T)) (fs : List (Frame T)) (ref : MethodRef) (callee : Method)
    → L.method ref ≡ Some callee → L.starts callee.class ≡ []
    → doing M L (Some (Invoke invoke.Static ref)) o ar m pc ls st fs ≡ with_args o ar callee.params st [] (λ args rest. called M L callee args o ar m pc ls rest fs)
invoked {T} M L o ar m pc ls st fs ref callee found none =
    ap (λ (x : Option Method). beginning (to_start o.begun (starts_of L x)) o ar (record { method = m; next = pc; locals = ls; stack = st } ∷ fs)
    (on_some o ar x (λ c. with_args o ar c.params st [] (λ args rest. called M L c args o ar m pc ls rest fs)))) found
    ∙ ap (λ (ms : List Method). beginning (to_start o.begun ms) o ar (record { method = m; next = pc; locals = ls; stack = st } ∷ fs)
    (with_args o ar callee.params st [] (λ args rest. called M L callee args o ar m pc ls rest fs))) none

module _ (L : Looks) where
  -- n steps lead from x to y
  pub record Goes (n : ℕ) (x y : State (Unit {0})) : Type 0 where
    pub by : run plain L n x ≡ y

  pub then_goes : (n : ℕ) (x y z : State (Unit {0})) → step plain L x ≡ y → Goes n y z → Goes (suc n) x z
  then_goes n x y z e g = record { by = ap (run plain L n) e ∙ g.by }

  pub stays : (x : State (Unit {0})) → Goes 0 x x
  stays x = record { by = refl }

  pub run_more : (i n : ℕ) (x : State (Unit {0})) → run plain L (i + n) x ≡ run plain L n (run plain L i x)
  run_more zero n x = let e : 0 + n ≡ n = omega arith in ap (λ k. run plain L k x) e
  run_more (suc i) n x = let e : suc i + n ≡ suc (i + n) = omega arith in ap (λ k. run plain L k x) e ∙ run_more i n (step plain L x)

  pub goes_on : (i n : ℕ) (x y z : State (Unit {0})) → Goes i x y → Goes n y z → Goes (i + n) x z
  goes_on i n x y z a b = record { by = run_more i n x ∙ ap (run plain L n) a.by ∙ b.by }

  module _ (m : Method) (ar : Areas (Unit {0})) where
    -- a frame of the method, alone
    abbrev pub here : Outside → ℕ → Bare → Bare → State (Unit {0})
    here o pc ls st = live o ar m pc ls st []

    -- one instruction
    pub does : (o : Outside) (pc : ℕ) (ls st : Bare) (i : Insn) → slice_get m.code pc ≡ Some i → step plain L (here o pc ls st) ≡ doing plain L (Some i) o ar m pc ls st []
    does o pc ls st i h = ap (λ (x : Option Insn). doing plain L x o ar m pc ls st []) h

    pub loads : (o : Outside) (pc i : ℕ) (ls st : Bare) (v : ℤ) → slice_get m.code pc ≡ Some (load i) → slice_get ls i ≡ Some (Num v tt) → step plain L (here o pc ls st) ≡ here o (pc + 1) ls (Num v tt ∷ st)
    loads o pc i ls st v h g = does o pc ls st (load i) h ∙ ap (λ (w : Option (Word (Unit {0}))). on_some o ar w (λ w. of_kind o ar kind.Int w (λ x. live o ar m (pc + 1) ls (words.pushed x st) []))) g

    -- a tag is set
    pub sets : (o : Outside) (pc d : ℕ) (ls st : Bare) (c : ℤ) → HasAt m.code pc (PushInt c ∷ store d ∷ []) → Goes 2 (here o pc ls st) (here o (pc + 1 + 1) (slice_set ls d (Num c tt)) st)
    sets o pc d ls st c h =
        then_goes 1 _ (here o (pc + 1) ls (Num c tt ∷ st)) _ (does o pc ls st (PushInt c) h.0)
        (then_goes 0 _ _ _ (does o (pc + 1) ls (Num c tt ∷ st) (store d) h.1.0) (stays _))

    -- a tag is copied
    pub copies : (o : Outside) (pc a d : ℕ) (ls st : Bare) (v : ℤ) → HasAt m.code pc (load a ∷ store d ∷ []) → slice_get ls a ≡ Some (Num v tt) → Goes 2 (here o pc ls st) (here o (pc + 1 + 1) (slice_set ls d (Num v tt)) st)
    copies o pc a d ls st v h g =
        then_goes 1 _ (here o (pc + 1) ls (Num v tt ∷ st)) _ (loads o pc a ls st v h.0 g)
        (then_goes 0 _ _ _ (does o (pc + 1) ls (Num v tt ∷ st) (store d) h.1.0) (stays _))

    -- two tags are joined
    pub joins : (o : Outside) (pc a b d : ℕ) (ls st : Bare) (u v : ℤ) → HasAt m.code pc (load a ∷ load b ∷ Bin width.Int operation.Or ∷ store d ∷ []) → slice_get ls a ≡ Some (Num u tt) → slice_get ls b ≡ Some (Num v tt) → Goes 4 (here o pc ls st) (here o (pc + 1 + 1 + 1 + 1) (slice_set ls d (Num (int_or u v) tt)) st)
    joins o pc a b d ls st u v h f g =
        then_goes 3 _ (here o (pc + 1) ls (Num u tt ∷ st)) _ (loads o pc a ls st u h.0 f)
        (then_goes 2 _ (here o (pc + 1 + 1) ls (Num v tt ∷ Num u tt ∷ st)) _ (loads o (pc + 1) b ls (Num u tt ∷ st) v h.1.0 g)
        (then_goes 1 _ (here o (pc + 1 + 1 + 1) ls (Num (int_or u v) tt ∷ st)) _ (does o (pc + 1 + 1) ls (Num v tt ∷ Num u tt ∷ st) (Bin width.Int operation.Or) h.1.1.0)
        (then_goes 0 _ _ _ (does o (pc + 1 + 1 + 1) ls (Num (int_or u v) tt ∷ st) (store d) h.1.1.1.0) (stays _))))
