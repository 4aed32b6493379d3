use Rattle.std.proofs.Common.{◌≡◌, ◌∙◌, ◌+◌, ◌++◌, ◌∷◌, [], List, ℕ, take, get_or, ap, sym}
use Rattle.std.specs.List.{flat_map}
use Rattle.std.proofs.lemmas.List.{flat_map_more, take_more}
use Rattle.std.proofs.lemmas.List.Elements.{All-push}
use Rattle.stack_maps.specs.declared.frame.RawType.{RawType}
use Rattle.stack_maps.specs.declared.frame.RawType.TheVariants.{Top}
use Rattle.stack_maps.specs.Bounds.{TypeFits}
use Rattle.stack_maps.specs.Spelling.{type_text}
use Rattle.stack_maps.proofs.encode.put_all.Goals as goal

pub loop-t-preserved : goal.loop-t-preserved
loop-t-preserved c =
    let xs = c.args.types.now in
    let i = c.loop-t.t-index in
    let x : RawType = get_or xs i Top in
    let before = c.args.bytes.now.items in
    let more : take (i + 1) xs ≡ take i xs ++ x ∷ [] = take_more xs i Top c.loop-t-test.true in
    let put = c.in_ok-put_type.ensures in
    record {
      spelled = put.spelled ∙ ap (λ (z : List ℕ). z ++ type_text x) c.loop-t.invariant.spelled ∙ flat_map_more type_text before (take i xs) x ∙ ap (λ (z : List RawType). before ++ flat_map type_text z) (sym more);
      fits = rw more (All-push TypeFits (take i xs) x c.loop-t.invariant.fits put.fits);
    }
