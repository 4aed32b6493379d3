-- Which statuses come, and which faults statuses 3 and 4 tell.
use Rattle.std.proofs.Common.{◌≡◌, ◌∙◌, ℕ, List, [], ◌∷◌, Option, refl, sym, subst, arith, lit<, inl, inr}
use Rattle.std.specs.Prelude.{Contains, ◌⊎◌, Result, Ok, Err, IfErr, IfOk}
use Rattle.outside_io.specs.Causes.{Rose}
use Rattle.command_parts.specs.Lines.{input_fault_line, output_fault_line}
use Rattle.command_parts.specs.Stops.{status_of, line_of}
use Rattle.command_parts.specs.Told.{Took, TookReadFault, TookWriteFault}
use Rattle.command_parts.specs.declared.stop.Stop.{Stop}
use Rattle.command_parts.specs.declared.stop.Stop.TheVariants.{Usage, ListFault, ReadFault, InputFault, WriteFault, OutputFault, TooManyFiles, FileTooLong, Memory}
use Rattle.phosphor_top.specs.declared.done.Done.{Done}
use Rattle.phosphor_top.specs.declared.done.Done.TheVariants.{Silent, Ran}
use Rattle.phosphor_top.specs.Commands.{IsCheck, IsInstrument, IsRun}
use Rattle.phosphor_top.specs.Endings.{Causes, Faults, IsRunEnd}
use Rattle.phosphor_top.specs.Run.{IsEnd}
use Rattle.phosphor_top.specs.Answers.{Tells}
use Rattle.phosphor_top.proofs.Statuses.{end_apart}

abbrev statuses : List ℕ
statuses = 0 ∷ 1 ∷ 2 ∷ 3 ∷ 4 ∷ 5 ∷ 7 ∷ 8 ∷ 9 ∷ 10 ∷ []

one_of : (stop : Stop) → Contains statuses (status_of stop)
one_of Usage = (1, lit< tt, refl)
one_of (ListFault dir) = (3, lit< tt, refl)
one_of (ReadFault path) = (3, lit< tt, refl)
one_of InputFault = (3, lit< tt, refl)
one_of (WriteFault path) = (4, lit< tt, refl)
one_of OutputFault = (4, lit< tt, refl)
one_of (TooManyFiles dir) = (9, lit< tt, refl)
one_of (FileTooLong path) = (9, lit< tt, refl)
one_of Memory = (5, lit< tt, refl)
one_of _ = (2, lit< tt, refl)

four : Contains statuses 4
four = (4, lit< tt, refl)

zero_is : Contains statuses 0
zero_is = (0, lit< tt, refl)

end_named : (status : ℕ) → IsEnd status → Contains statuses status
end_named status (inl e) = subst (λ (n : ℕ). Contains statuses n) (sym e) zero_is
end_named status (inr (inl e)) = subst (λ (n : ℕ). Contains statuses n) (sym e) (6, lit< tt, refl)
end_named status (inr (inr (inl e))) = subst (λ (n : ℕ). Contains statuses n) (sym e) (7, lit< tt, refl)
end_named status (inr (inr (inr e))) = subst (λ (n : ℕ). Contains statuses n) (sym e) (8, lit< tt, refl)

-- a status is one of those that are named
pub named_status : (outcome : Result Done Stop) (e f : Option (List ℕ)) (r s status : ℕ) → IfOk outcome IsRunEnd → Tells outcome e f r s status → Contains statuses status
named_status (Ok Silent) e f r s status end tells = subst (λ (n : ℕ). Contains statuses n) (sym tells.0) zero_is
named_status (Ok (Ran told lines)) e f r s status end tells =
    elim tells.1 [
      | inl t ↦ subst (λ (n : ℕ). Contains statuses n) (sym t.0) (end_named told end)
      | inr t ↦ subst (λ (n : ℕ). Contains statuses n) (sym t.0) four
    ]
named_status (Err stop) e f r s status end tells =
    elim tells.1 [
      | inl t ↦ subst (λ (n : ℕ). Contains statuses n) (sym t.0) (one_of stop)
      | inr t ↦ subst (λ (n : ℕ). Contains statuses n) (sym t.0) four
    ]

-- ---- status 3

-- a read of the folder or of standard input failed, with its line
abbrev ReadFailed : List (List ℕ) → (x y : Faults) → (e f : Option (List ℕ)) → Type 0
ReadFailed words x y e f = (Rose x.reads y.reads × TookReadFault e f) ⊎ (IsRun words × Rose x.input y.input × Took e f input_fault_line)

read_fault_of : (words : List (List ℕ)) (stop : Stop) (x y : Faults) (e f : Option (List ℕ)) → status_of stop ≡ 3 → Causes words x y stop → Took e f (line_of stop) → ReadFailed words x y e f
read_fault_of words (ListFault dir) x y e f is cause took = inl (cause, inl (dir, took))
read_fault_of words (ReadFault path) x y e f is cause took = inl (cause, inr (path, took))
read_fault_of words InputFault x y e f is cause took = inr (cause.0, cause.1, took)
read_fault_of words _ x y e f is cause took = absurd (omega (arith, is))

-- a command that is done has another status, unless its lines could not be written
done_is_no_read_fault : (done : Done) (e f : Option (List ℕ)) (r s status : ℕ) → IsRunEnd done → Tells (Ok done) e f r s status → status ≡ 3 → ⊥
done_is_no_read_fault Silent e f r s status end tells is = omega (arith, tells.0, is)
done_is_no_read_fault (Ran told lines) e f r s status end tells is =
    elim tells.1 [
      | inl t ↦ end_apart told 3 (λ x. omega (arith, x)) (λ x. omega (arith, x)) (λ x. omega (arith, x)) (λ x. omega (arith, x)) end (sym t.0 ∙ is)
      | inr t ↦ omega (arith, t.0, is)
    ]

pub read_fault : (words : List (List ℕ)) (outcome : Result Done Stop) (x y : Faults) (e f : Option (List ℕ)) (r s status : ℕ)
    → IfOk outcome IsRunEnd → IfErr outcome (Causes words x y) → Tells outcome e f r s status → status ≡ 3
    → (Rose x.reads y.reads × TookReadFault e f) ⊎ (IsRun words × Rose x.input y.input × Took e f input_fault_line)
read_fault words (Ok done) x y e f r s status end cause tells is = absurd (done_is_no_read_fault done e f r s status end tells is)
read_fault words (Err stop) x y e f r s status end cause tells is =
    elim tells.1 [ inl t ↦ read_fault_of words stop x y e f (sym t.0 ∙ is) cause t.1 | inr t ↦ absurd (omega (arith, t.0, is)) ]

-- ---- status 4

-- a write of the command that the words spell failed, with its line
abbrev Failed : List (List ℕ) → (x y : Faults) → (e f : Option (List ℕ)) → Type 0
Failed words x y e f = (IsInstrument words × Rose x.writes y.writes × TookWriteFault e f) ⊎ ((IsCheck words ⊎ IsRun words) × Rose x.out y.out × Took e f output_fault_line)

write_fault_of : (words : List (List ℕ)) (stop : Stop) (x y : Faults) (e f : Option (List ℕ)) → status_of stop ≡ 4 → Causes words x y stop → Took e f (line_of stop) → Failed words x y e f
write_fault_of words (WriteFault path) x y e f is cause took = inl (cause.0, cause.1, (path, took))
write_fault_of words OutputFault x y e f is cause took = inr (cause.0, cause.1, took)
write_fault_of words _ x y e f is cause took = absurd (omega (arith, is))

pub write_fault : (words : List (List ℕ)) (outcome : Result Done Stop) (x y : Faults) (e f : Option (List ℕ)) (r s status : ℕ)
    → IfOk outcome IsRunEnd → IfErr outcome (Causes words x y) → Tells outcome e f r s status → status ≡ 4
    → Rose r s ⊎ (IsInstrument words × Rose x.writes y.writes × TookWriteFault e f) ⊎ ((IsCheck words ⊎ IsRun words) × Rose x.out y.out × Took e f output_fault_line)
write_fault words (Ok Silent) x y e f r s status end cause tells is = absurd (omega (arith, tells.0, is))
write_fault words (Ok (Ran told lines)) x y e f r s status end cause tells is =
    elim tells.1 [
      | inl t ↦ absurd (end_apart told 4 (λ z. omega (arith, z)) (λ z. omega (arith, z)) (λ z. omega (arith, z)) (λ z. omega (arith, z)) end (sym t.0 ∙ is))
      | inr t ↦ inl t.1
    ]
write_fault words (Err stop) x y e f r s status end cause tells is =
    elim tells.1 [ inl t ↦ inr (write_fault_of words stop x y e f (sym t.0 ∙ is) cause t.1) | inr t ↦ inl t.1 ]
