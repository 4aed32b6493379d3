use Rattle.std.proofs.Common.{◌∙◌, ap}
use Rattle.lists.specs.Texts.{units_of}
use Rattle.set_lookups.specs.Above.{same_name}
use Rattle.set_lookups.specs.SameTypes.{name_test}
use Rattle.program_links.proofs.natives.is_text.Goals as goal

pub returns : goal.returns
returns c = name_test c.args.name.now (units_of c.args.text.now) c.is.result c.is.ensures ∙ ap (same_name c.args.name.now) c.requires
