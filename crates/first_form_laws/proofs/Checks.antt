-- A check of code that computes, and what it says when it passes.
use Rattle.std.proofs.Common.{◌≡◌, ◌∙◌, ℕ, zero, suc, ◌+◌, Bool, true, false, List, [], ◌∷◌, ◌++◌, length, refl, sym, ap, Option, Some, None, Result, Ok, Err, length-append, append_assoc, append-nil}
use Rattle.std.specs.Prelude.{slice_get, option_and_then, option_map, IfSome}
use Rattle.std.specs.List.{list_all, AllByRecursion}
use Rattle.class_model.specs.declared.insn.Insn.{Insn}
use Rattle.class_model.specs.declared.class.Frame.{Frame}
use Rattle.class_model.specs.declared.class.CodeDef.{CodeDef}
use Rattle.class_model.specs.declared.class.MethodDef.{MethodDef}
use Rattle.class_model.specs.declared.class.ClassDef.{ClassDef}
use Rattle.set_lookups.specs.SameTypes.{and_first, and_second}
use Rattle.type_rows.specs.declared.state.TypeState.{TypeState}
use Rattle.type_rows.specs.declared.rule.VerifyRule.{VerifyRule}
use Rattle.type_rows.specs.Method.{Method}
use Rattle.verifier.specs.declared.typing.Typing.{Typing}
use Rattle.verifier.specs.Check.{judge}
use Rattle.verifier.specs.Set.{with_code, method_in, method_from}
use Rattle.verifier.specs.Verifies.{came, Verifies}
use Rattle.verifier.specs.WholeSet.{SetVerifies}
use Rattle.verifier.proofs.Typings.{Passed, starts, passes}

-- the rules give a typing, with which it goes on
abbrev pub typed_on : Result Typing VerifyRule → (Typing → Bool) → Bool
typed_on (Ok typing) go = go typing
typed_on (Err rule) go = false

-- each instruction from a number on has a typing
abbrev pub passes_on : Method → ℕ → List Insn → Option TypeState → Bool
passes_on m at [] next = true
passes_on m at (insn ∷ insns) next = typed_on (judge m at insn next) (λ typing. passes_on m (at + 1) insns typing.falls_on)

record Goes (r : Result Typing VerifyRule) (go : Typing → Bool) : Type 0 where
  typing : Typing
  judged : r ≡ Ok typing
  rest : go typing ≡ true

goes : (r : Result Typing VerifyRule) (go : Typing → Bool) → typed_on r go ≡ true → Goes r go
goes (Ok typing) go h = record { typing = typing; judged = refl; rest = h }
goes (Err rule) go h = absurd cc

at_seam : (before : List Insn) (insn : Insn) (insns : List Insn) → slice_get (before ++ insn ∷ insns) (length before) ≡ Some insn
at_seam [] insn insns = refl
at_seam (other ∷ before) insn insns = at_seam before insn insns

checked_from : (m : Method) (insns before : List Insn) (frames : List Frame) (at : ℕ) (next : Option TypeState) → m.code.insns ≡ before ++ insns → at ≡ length before → Passed m frames at next → passes_on m at insns next ≡ true → Verifies m
checked_from m [] before frames at next is here p h = (frames, (p.0, p.1, p.2 ∙ here ∙ ap length (sym (append-nil before)) ∙ ap length (sym is), p.3))
checked_from m (insn ∷ insns) before frames at next is here p h =
    let g = goes (judge m at insn next) (λ typing. passes_on m (at + 1) insns typing.falls_on) h in
    let there : slice_get m.code.insns at ≡ Some insn = (λ i. slice_get (is i) (here i)) ∙ at_seam before insn insns in
    checked_from m insns (before ++ insn ∷ []) (frames ++ g.typing.frame ∷ []) (at + 1) g.typing.falls_on
    (is ∙ sym (append_assoc before (insn ∷ []) insns))
    (ap (λ n. n + 1) here ∙ sym (length-append before (insn ∷ [])))
    (passes m frames at next insn g.typing p there g.judged)
    g.rest

verified : (m : Method) → passes_on m 0 m.code.insns (came m [] 0) ≡ true → Verifies m
verified m h = checked_from m m.code.insns [] [] 0 (came m [] 0) refl refl (starts m (came m [] 0) refl) h

abbrev pub code_passes : List ClassDef → ℕ → ClassDef → MethodDef → Option CodeDef → Bool
code_passes set number class method None = true
code_passes set number class method (Some code) = passes_on (with_code set number class method code) 0 code.insns (came (with_code set number class method code) [] 0)

abbrev pub method_passes : List ClassDef → ℕ → ClassDef → MethodDef → Bool
method_passes set number class method = code_passes set number class method method.code

abbrev pub class_passes : List ClassDef → ℕ → ClassDef → Bool
class_passes set number class = list_all (method_passes set number class) class.methods

-- a class whose methods pass in every set
abbrev pub ClassPasses : ClassDef → Type 0
ClassPasses class = (set : List ClassDef) (number : ℕ) → class_passes set number class ≡ true

code_verifies : (set : List ClassDef) (number : ℕ) (class : ClassDef) (method : MethodDef) (code : Option CodeDef) → code_passes set number class method code ≡ true → IfSome (option_map (with_code set number class method) code) Verifies
code_verifies set number class method None h = tt
code_verifies set number class method (Some code) h = verified (with_code set number class method code) h

methods_verify : (set : List ClassDef) (number : ℕ) (class : ClassDef) (methods : List MethodDef) (index : ℕ) → list_all (method_passes set number class) methods ≡ true → IfSome (option_and_then (method_in set number class) (slice_get methods index)) Verifies
methods_verify set number class [] index h = tt
methods_verify set number class (method ∷ methods) zero h =
    code_verifies set number class method method.code (and_first (method_passes set number class method) (list_all (method_passes set number class) methods) h)
methods_verify set number class (method ∷ methods) (suc index) h =
    methods_verify set number class methods index (and_second (method_passes set number class method) (list_all (method_passes set number class) methods) h)

classes_verify : (set classes : List ClassDef) (number index place : ℕ) → AllByRecursion ClassPasses classes → IfSome (option_and_then (method_from set (record { class = number; index = index })) (slice_get classes place)) Verifies
classes_verify set [] number index place all = tt
classes_verify set (class ∷ classes) number index zero all = methods_verify set number class class.methods index (all.0 set number)
classes_verify set (class ∷ classes) number index (suc place) all = classes_verify set classes number index place all.1

pub set_verifies : (set : List ClassDef) → AllByRecursion ClassPasses set → SetVerifies set
set_verifies set all = λ id. classes_verify set set id.class id.index id.class all

-- classes each of which passes in every set
pub each_passes : (classes : List ClassDef) → ((set : List ClassDef) (number : ℕ) → list_all (class_passes set number) classes ≡ true) → AllByRecursion ClassPasses classes
each_passes [] h = tt
each_passes (class ∷ classes) h = (
  λ set number. and_first (class_passes set number class) (list_all (class_passes set number) classes) (h set number),
  each_passes classes (λ set number. and_second (class_passes set number class) (list_all (class_passes set number) classes) (h set number)),
)
