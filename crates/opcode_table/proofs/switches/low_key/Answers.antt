use Rattle.std.proofs.Common.{◌≡◌, ℕ, ◌+◌, ◌-◌, ◌*◌, ◌<◌, ◌≤◌, Bool, List, sym, ap, ◌∙◌, arith}
use Rattle.std.proofs.lemmas.Int.{ints}
use Rattle.opcode_table.specs.Judging.{has_low_key}
use Rattle.opcode_table.proofs.Tables.{low_key_missing, low_key_found, low_key_next, low_key_one}
use Rattle.opcode_table.proofs.switches.low_key.Goals as goal

-- the rows that are left at turn k are one more than those behind row k - 1
left : (text : List ℕ) (row count k : ℕ) (total : Bool) → 1 ≤ k → k < count → has_low_key text row (count - (k - 1)) ≡ total → has_low_key text row (count - k + 1) ≡ total
left text row count k total some lt h = let e : count - k + 1 ≡ count - (k - 1) = omega arith in ap (λ (n : ℕ). has_low_key text row n) e ∙ h

pub returns-then-text-row : goal.returns-then-text-row
returns-then-text-row c =
    sym (low_key_missing c.args.text.now (c.args.at + 8 * (c.loop-k.k - 1)) (c.args.count - (c.loop-k.k - 1)) (omega arith)) ∙ c.loop-k.invariant

pub returns-then-next-key : goal.returns-then-next-key
returns-then-next-key c =
    let row = c.args.at + 8 * (c.loop-k.k - 1) in
    let h = left c.args.text.now row c.args.count c.loop-k.k _ (omega arith) (omega arith) c.loop-k.invariant in
    sym (low_key_found c.args.text.now row (c.args.count - c.loop-k.k) (omega arith) (omega arith) (omega (arith, ints, c.i32_at-key.ensures, c.i32_at-next.ensures))) ∙ h

pub loop-k-preserved : goal.loop-k-preserved
loop-k-preserved c =
    let row = c.args.at + 8 * (c.loop-k.k - 1) in
    let n = c.args.count - c.loop-k.k in
    let h = left c.args.text.now row c.args.count c.loop-k.k _ (omega arith) (omega arith) c.loop-k.invariant in
    let place : c.args.at + 8 * (c.loop-k.k + 1 - 1) ≡ row + 8 = omega arith in
    let rows : c.args.count - (c.loop-k.k + 1 - 1) ≡ n = omega arith in
    let next = low_key_next c.args.text.now row n (omega arith) (omega arith) (omega (arith, ints, c.i32_at-key.ensures, c.i32_at-next.ensures)) in
    ap (λ (p : ℕ). has_low_key c.args.text.now p (c.args.count - (c.loop-k.k + 1 - 1))) place ∙ ap (λ (m : ℕ). has_low_key c.args.text.now (row + 8) m) rows ∙ sym next ∙ h

pub returns : goal.returns
returns c =
    sym (low_key_one c.args.text.now (c.args.at + 8 * (c.loop-k.k - 1)) (c.args.count - (c.loop-k.k - 1)) (omega arith)) ∙ c.loop-k.invariant
