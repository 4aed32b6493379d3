use Rattle.program_links.proofs.Classed.{row_is}
use Rattle.program_links.proofs.class_rows.row_along.Goals as goal

pub returns : goal.returns
returns g c =
    row_is g.T.Tag.none_of c.args.set.now c.args.tables.now c.args.parts.now c.args.class c.class.result.now c.args.classes.now
    (record { ty = c.at.result.now; fits = c.in_ok-fits.fits; above = c.superclass.result; fresh = c.in_ok-fresh.fresh; starts = c.in_ok-starts.starts; selects = c.in_ok-selects.selects })
    c.requires.closed c.class.ensures c.requires.there c.requires.parts c.requires.up c.requires.within c.at.ensures c.in_ok-fits.ensures c.superclass.ensures c.in_ok-fresh.ensures c.in_ok-starts.ensures c.in_ok-selects.ensures
