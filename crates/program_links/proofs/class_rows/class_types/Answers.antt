use Rattle.std.proofs.Common.{◌≡◌, ◌+◌, ◌++◌, ◌∷◌, [], List, ℕ, refl, sym, subst}
use Rattle.program_links.specs.Each.{Numbered}
use Rattle.program_links.specs.RowTo.{IsClassType}
use Rattle.program_links.proofs.Growing.{grown_further}
use Rattle.program_links.proofs.EachMore.{numbered_more}
use Rattle.program_links.proofs.Classed.{types_grow}
use Rattle.program_links.proofs.class_rows.class_types.Goals as goal

pub loop-class-preserved : goal.loop-class-preserved
loop-class-preserved c =
    let set = c.args.set.now in
    let class = c.loop-class.class in
    let new = c.class_type.new.tables in
    let pushed : c.push.new.self ≡ c.loop-class.types ++ c.in_ok-ty.ty ∷ [] = c.in_ok-push.ensures.ok in
    record {
      grows = grown_further c.args.tables.now c.loop-class.tables new c.loop-class.invariant.grows c.in_ok-ty.ensures.grows;
      are = subst (λ (types : List ℕ). Numbered (IsClassType new set) types (class + 1)) (sym pushed)
          (numbered_more (IsClassType new set) c.loop-class.types class (class + 1) c.in_ok-ty.ty (types_grow set c.loop-class.tables new c.loop-class.types class c.in_ok-ty.ensures.grows c.loop-class.invariant.are) c.in_ok-ty.ensures.is refl);
    }
