-- A byte that was read.
use Rattle.std.proofs.Common.{◌≡◌, ◌≢◌, ℕ, zero, suc, ◌≤◌, ◌∙◌, List, [], ◌∷◌, ◌++◌, length, take, Option, Some, None, refl, ap, get_or, arith}
use Rattle.std.specs.Io.KnownBytes.{Consumes, IsAtEnd}
use Rattle.run_console.specs.Runs.{IfTold, Gives}

pub gives_none : (left now : Option (List ℕ)) (buffer : List ℕ) → Consumes left now (take 0 buffer) → IsAtEnd now → IfTold left now (Gives None)
gives_none None now buffer took over = tt
gives_none (Some before) None buffer took over = took
gives_none (Some before) (Some after) buffer took over = (took ∙ over, over)

one_byte : (buffer : List ℕ) (n : ℕ) → length buffer ≡ 1 → n ≤ length buffer → n ≢ 0 → take n buffer ≡ get_or buffer 0 0 ∷ []
one_byte [] n one few some = absurd (omega arith)
one_byte (x ∷ []) zero one few some = absurd (some refl)
one_byte (x ∷ []) (suc zero) one few some = refl
one_byte (x ∷ []) (suc (suc n)) one few some = absurd (omega arith)
one_byte (x ∷ y ∷ ys) n one few some = absurd (omega arith)

pub gives_first : (left now : Option (List ℕ)) (buffer : List ℕ) (n : ℕ) → length buffer ≡ 1 → n ≤ length buffer → n ≢ 0 → Consumes left now (take n buffer) → IfTold left now (Gives (Some (get_or buffer 0 0)))
gives_first None now buffer n one few some took = tt
gives_first (Some before) None buffer n one few some took = took
gives_first (Some before) (Some after) buffer n one few some took = took ∙ ap (λ bs. bs ++ after) (one_byte buffer n one few some)
