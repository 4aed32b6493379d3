-- How many members an object has.
use Rattle.std.proofs.Common.{◌≡◌, ◌↔◌, ℕ, List, length, Option, Some, option_map, String, Global, IsTrue, nat_eq, sym, ap, ◌∙◌, arith}
use Rattle.std.proofs.lemmas.Bool.Decides.{nat_tests}
use Rattle.serde_json.proofs.Views.{Entry, members_len-members_view}
use Rattle.serde_json.specs.Data.{Members}
use Rattle.serde_json.specs.Events.{members_len}
use Rattle.serde_json.specs.View.{members_view}

some_same : (m n : ℕ) → Some m ≡ Some n → m ≡ n
some_same m n e = cc

-- a count of the members that is compared with a number
pub members_counted : (ms : Option Members) (es : List Entry) (n count : ℕ) → Some (members_view es) ≡ ms → n ≡ length es → IsTrue (nat_eq n count) ↔ (option_map members_len ms ≡ Some count)
members_counted ms es n count is len =
    let counted : option_map members_len ms ≡ Some n = ap (option_map members_len) (sym is) ∙ ap Some (members_len-members_view es ∙ sym len) in
    (λ same. let e : n ≡ count = grind (arith, nat_tests) in counted ∙ ap Some e, λ e. let same : n ≡ count = some_same n count (sym counted ∙ e) in grind (arith, nat_tests))
