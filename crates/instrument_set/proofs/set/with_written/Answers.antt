use Rattle.std.proofs.Common.{◌∙◌, List, sym, ap, subst}
use Rattle.std.proofs.lemmas.List.Elements.{All-same}
use Rattle.class_model.specs.declared.class.ClassDef.{ClassDef}
use Rattle.instrument_set.specs.Written.{written_class}
use Rattle.instrument_set.specs.WrittenSet.{insert_class, written_base}
use Rattle.instrument_set.proofs.Front.{first_formed, one_written}
use Rattle.instrument_set.proofs.PathText.{HasPlainName, form_plain, base_plain}
use Rattle.instrument_set.proofs.Straight.{class_fits}
use Rattle.instrument_set.proofs.set.with_written.Goals as goal

pub rewrite_class-requires : goal.rewrite_class-requires
rewrite_class-requires c = class_fits c.class-item.result (first_formed c.args.classes.now c.class-item.result c.in-len1-up.len_at_least c.class-item.is c.requires)

pub put_class-requires-clause-plain : goal.put_class-requires-clause-plain
put_class-requires-clause-plain c =
    subst HasPlainName (sym c.in_ok-rewrite_class-in-len1-up.ensures)
    (form_plain c.class-item.result (first_formed c.args.classes.now c.class-item.result c.in-len1-up.len_at_least c.class-item.is c.requires))

pub put_class-requires-clause-others_plain : goal.put_class-requires-clause-others_plain
put_class-requires-clause-others_plain c = All-same HasPlainName c.in_ok-written-in-len1-up.written.items written_base c.in_ok-written-in-len1-up.ensures base_plain

pub returns-in_ok-put_class-in-len1-up : goal.returns-in_ok-put_class-in-len1-up
returns-in_ok-put_class-in-len1-up c =
    c.in_ok-put_class-in-len1-up.ensures
    ∙ ap (λ (class : ClassDef). insert_class class c.in_ok-written-in-len1-up.written.items) c.in_ok-rewrite_class-in-len1-up.ensures
    ∙ ap (λ (classes : List ClassDef). insert_class (written_class c.args.marks c.class-item.result) classes) c.in_ok-written-in-len1-up.ensures
    ∙ one_written c.args.marks c.args.classes.now c.class-item.result c.in-len1-up.len_at_least c.class-item.is
