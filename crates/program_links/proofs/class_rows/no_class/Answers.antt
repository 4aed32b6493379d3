use Rattle.std.proofs.Common.{◌∙◌, refl, None}
use Rattle.program_links.proofs.Classed.{no_row}
use Rattle.program_links.proofs.class_rows.no_class.Goals as goal

pub returns : goal.returns
returns g c =
    no_row g.T.Tag.none_of c.args.set.now c.args.tables.now
    (record { ty = c.in_ok-ty.ty; fits = c.in_ok-fits.fits; above = None; fresh = c.new.result; starts = c.new-2.result; selects = c.new-3.result })
    c.requires (c.in_ok-ty.ensures ∙ c.count_types.ensures) c.in_ok-fits.ensures refl c.new.ensures c.new-2.ensures c.new-3.ensures
