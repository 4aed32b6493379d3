-- What an instruction needs of the stack and the locals that it finds, and where its piece is.
use Rattle.std.proofs.Common.{◌≡◌, ℕ, zero, suc, ◌+◌, ◌<◌, ◌≤◌, List, [], ◌∷◌, length, Some, None, refl, ap, ◌∙◌, subst, arith}
use Rattle.std.specs.Prelude.{slice_get, ◌⊎◌}
use Rattle.std.proofs.lemmas.Option.{same_Some}
use Rattle.class_model.specs.declared.insn.Kind.TheVariants as kind
use Rattle.class_model.specs.declared.insn.Width.TheVariants as width
use Rattle.class_model.specs.declared.insn.StackOp.TheVariants as stack
use Rattle.class_model.specs.declared.insn.InvokeKind.TheVariants as invoke
use Rattle.class_model.specs.declared.insn.BinOp.{BinOp}
use Rattle.class_model.specs.declared.insn.BinOp.TheVariants as operation
use Rattle.class_model.specs.declared.insn.Insn.{Insn}
use Rattle.class_model.specs.declared.insn.Insn.TheVariants.{PushInt, Load, Store, Stack, Bin, Return, Invoke}
use Rattle.run_state.specs.Natives.{Read, Write}
use Rattle.instrument_set.specs.declared.marks.Marks.{Marks}
use Rattle.instrument_set.specs.Pieces.{piece_of, pieces, after}
use Rattle.instrument_set.proofs.Natives.{ref_of}
use Rattle.instrument_set.proofs.Runs.{HasAt, has_front, has_back}

-- an operation that no operand makes fail
abbrev pub NeverFails : BinOp → Type 0
NeverFails operation.Div = ⊥
NeverFails operation.Rem = ⊥
NeverFails _ = Unit {0}

-- an instruction that finds d words, of at most `words`, among `locals` locals
abbrev pub Fine : (locals words : ℕ) → Insn → ℕ → Type 0
Fine locals words (PushInt number) d = d < words
Fine locals words (Load kind.Int slot) d = (slot < locals) × (d < words)
Fine locals words (Store kind.Int slot) d = (slot < locals) × (1 ≤ d)
Fine locals words (Stack stack.Pop) d = 1 ≤ d
Fine locals words (Bin width.Int op) d = NeverFails op × (2 ≤ d) × (d ≤ words)
Fine locals words (Invoke invoke.Static method) d = ((method ≡ ref_of Read) × (d < words)) ⊎ ((method ≡ ref_of Write) × (1 ≤ d))
Fine locals words (Return None) d = Unit {0}
Fine locals words insn d = ⊥

-- what the next instruction goes on behind
abbrev pub FallsOn : Insn → Type 0
FallsOn (Return k) = ⊥
FallsOn insn = Unit {0}

-- how deep the stack is at each instruction
abbrev pub depths : List Insn → ℕ → List ℕ
depths [] d = []
depths (insn ∷ insns) d = d ∷ depths insns (after insn d)

-- where the piece of instruction pc begins; at the count of instructions, where the last one ends
abbrev pub place : ℕ → Marks → ℕ → List Insn → ℕ → ℕ → ℕ
place locals marks p [] d pc = p
place locals marks p (insn ∷ insns) d zero = p
place locals marks p (insn ∷ insns) d (suc pc) = place locals marks (p + length (piece_of locals marks insn d)) insns (after insn d) pc

pub place_0 : (locals : ℕ) (marks : Marks) (p : ℕ) (insns : List Insn) (d : ℕ) → place locals marks p insns d 0 ≡ p
place_0 locals marks p [] d = refl
place_0 locals marks p (insn ∷ insns) d = refl

-- the next piece follows
next_from : (locals : ℕ) (marks : Marks) (p : ℕ) (insns : List Insn) (d pc e : ℕ) (insn : Insn) → slice_get insns pc ≡ Some insn → slice_get (depths insns d) pc ≡ Some e
    → place locals marks p insns d (suc pc) ≡ place locals marks p insns d pc + length (piece_of locals marks insn e)
next_from locals marks p [] d pc e insn h g = cc
next_from locals marks p (x ∷ xs) d zero e insn h g =
    let same : x ≡ insn = same_Some x insn h in
    let deep : d ≡ e = same_Some d e g in
    place_0 locals marks (p + length (piece_of locals marks x d)) xs (after x d)
    ∙ ap (λ (i : Insn). p + length (piece_of locals marks i d)) same ∙ ap (λ (k : ℕ). p + length (piece_of locals marks insn k)) deep
next_from locals marks p (x ∷ xs) d (suc pc) e insn h g = next_from locals marks (p + length (piece_of locals marks x d)) xs (after x d) pc e insn h g

pub next_place : (locals : ℕ) (marks : Marks) (p : ℕ) (insns : List Insn) (d pc e : ℕ) (insn : Insn) → slice_get insns pc ≡ Some insn → slice_get (depths insns d) pc ≡ Some e
    → place locals marks p insns d (pc + 1) ≡ place locals marks p insns d pc + length (piece_of locals marks insn e)
next_place locals marks p insns d pc e insn h g =
    let one : suc pc ≡ pc + 1 = omega arith in
    subst (λ (k : ℕ). place locals marks p insns d k ≡ place locals marks p insns d pc + length (piece_of locals marks insn e)) one (next_from locals marks p insns d pc e insn h g)

-- the piece of an instruction stands at its place
pub laid : (locals : ℕ) (marks : Marks) (w : List Insn) (p : ℕ) (insns : List Insn) (d : ℕ) → HasAt w p (pieces locals marks insns d) → (pc e : ℕ) (insn : Insn)
    → slice_get insns pc ≡ Some insn → slice_get (depths insns d) pc ≡ Some e → HasAt w (place locals marks p insns d pc) (piece_of locals marks insn e)
laid locals marks w p [] d h pc e insn i g = cc
laid locals marks w p (x ∷ xs) d h zero e insn i g =
    subst (λ (k : ℕ). HasAt w p (piece_of locals marks insn k)) (same_Some d e g)
    (subst (λ (y : Insn). HasAt w p (piece_of locals marks y d)) (same_Some x insn i) (has_front w p (piece_of locals marks x d) (pieces locals marks xs (after x d)) h))
laid locals marks w p (x ∷ xs) d h (suc pc) e insn i g =
    laid locals marks w (p + length (piece_of locals marks x d)) xs (after x d) (has_back w p (piece_of locals marks x d) (pieces locals marks xs (after x d)) h) pc e insn i g

-- code each of whose instructions is fine, and of which the last returns
pub record AreFine (locals words : ℕ) (code : List Insn) : Type 0 where
  pub begins : slice_get (depths code 0) 0 ≡ Some 0
  pub there : (pc d : ℕ) → slice_get (depths code 0) pc ≡ Some d → (insn : Insn) × (slice_get code pc ≡ Some insn)
  pub each : (pc d : ℕ) (insn : Insn) → slice_get code pc ≡ Some insn → slice_get (depths code 0) pc ≡ Some d → Fine locals words insn d
  pub next : (pc d : ℕ) (insn : Insn) → slice_get code pc ≡ Some insn → slice_get (depths code 0) pc ≡ Some d → FallsOn insn → slice_get (depths code 0) (pc + 1) ≡ Some (after insn d)
