-- What the status of an ending is not.
use Rattle.std.proofs.Common.{◌≡◌, ◌≢◌, ◌∙◌, ℕ, sym, inl, inr}
use Rattle.phosphor_top.specs.Run.{IsEnd}

pub end_apart : (status n : ℕ) → n ≢ 0 → n ≢ 7 → n ≢ 8 → n ≢ 9 → IsEnd status → status ≡ n → ⊥
end_apart status n a b c d (inl e) is = a (sym is ∙ e)
end_apart status n a b c d (inr (inl e)) is = b (sym is ∙ e)
end_apart status n a b c d (inr (inr (inl e))) is = c (sym is ∙ e)
end_apart status n a b c d (inr (inr (inr e))) is = d (sym is ∙ e)
