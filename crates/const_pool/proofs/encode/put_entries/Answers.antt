use Rattle.std.proofs.Common.{◌≡◌, ◌∙◌, ◌+◌, ◌++◌, ◌∷◌, [], take, sym, ap}
use Rattle.std.specs.List.{flat_map}
use Rattle.std.proofs.lemmas.List.{flat_map_more, take_more}
use Rattle.std.proofs.lemmas.List.Elements.{All-push}
use Rattle.const_pool.specs.Pool.{entry_bytes, InRange}
use Rattle.const_pool.proofs.encode.put_entries.Goals as goal

pub loop-entry-preserved : goal.loop-entry-preserved
loop-entry-preserved c =
    let xs = c.args.entries.now in
    let i = c.loop-entry.entry-index in
    let x = c.entry-item.result in
    let before = c.args.bytes.now.items in
    let more : take (i + 1) xs ≡ take i xs ++ x ∷ [] = take_more xs i x c.loop-entry-test.true ∙ ap (λ y. take i xs ++ y ∷ []) (sym c.entry-item.is) in
    let so_far = c.loop-entry.invariant in
    (c.in_ok-put_entry.ensures.spelled ∙ ap (λ z. z ++ entry_bytes x) so_far.0 ∙ flat_map_more entry_bytes before (take i xs) x ∙ ap (λ z. before ++ flat_map entry_bytes z) (sym more), rw more (All-push InRange (take i xs) x so_far.1 c.in_ok-put_entry.ensures.in_range))
