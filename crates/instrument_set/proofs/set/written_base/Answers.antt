use Rattle.std.proofs.Common.{◌∙◌, sym, subst}
use Rattle.std.proofs.lemmas.List.Elements.{All-same}
use Rattle.small_base.specs.Base.{small_base}
use Rattle.instrument_set.proofs.PathText.{HasPlainName, report_plain, small_base_plain}
use Rattle.instrument_set.proofs.set.written_base.Goals as goal

pub put_class-requires-clause-plain : goal.put_class-requires-clause-plain
put_class-requires-clause-plain c = subst HasPlainName (sym c.in_ok-report_class.ensures) report_plain

pub put_class-requires-clause-others_plain : goal.put_class-requires-clause-others_plain
put_class-requires-clause-others_plain c = All-same HasPlainName _ small_base c.in_ok-classes.ensures small_base_plain
