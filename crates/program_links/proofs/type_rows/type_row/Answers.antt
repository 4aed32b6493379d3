use Rattle.std.proofs.Common.{◌∙◌, sym, ap}
use Rattle.class_model.specs.declared.types.JType.{JType}
use Rattle.run_state.specs.References.{is_array}
use Rattle.program_links.proofs.Classed.{type_numbered}
use Rattle.program_links.proofs.Typing.{row_is, base_of, base_named, array_test}
use Rattle.program_links.proofs.type_rows.type_row.Goals as goal

pub returns : goal.returns
returns g c =
    let set = c.args.set.now in
    let t = c.args.tables.now in
    let key = c.type_at-ty.result.now in
    let base = base_of set t c.args.bases.now c.args.at c.at-base.result.now key c.requires.bases c.type_at-ty.ensures c.at-base.ensures in
    row_is g.T.Tag.none_of set t c.args.at key
    (record {
      is_array = _;
      numbers = c.numbers_of.result;
      element = c.in_ok-element.element;
      narrowing = c.narrowing_of.result;
      default = c.default_of.result;
      receiver = c.receiver_of.result;
      base = c.at-base.result.now;
      fits = c.in_ok-fits.fits;
    })
    c.type_at-ty.ensures
    (record {
      array = ap (λ (k : JType). is_array k) (sym c.ty.view_is) ∙ array_test c.ty.inside.depth;
      numbers = c.numbers_of.ensures;
      element = type_numbered set t c.in_ok-element.element _ c.in_ok-element.ensures;
      narrows = c.narrowing_of.ensures;
      default = c.default_of.ensures;
      receiver = c.receiver_of.ensures;
      base = base_named set key.base c.at-base.result.now base;
      fits = c.in_ok-fits.ensures;
    })
