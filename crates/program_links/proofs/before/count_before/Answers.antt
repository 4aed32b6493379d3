use Rattle.std.proofs.Common.{◌≡◌, ◌∙◌, ◌+◌, arith, refl, sym, ap, subst, List, [], ◌∷◌, ◌++◌, length, filter}
use Rattle.std.proofs.lemmas.List.{length_push}
use Rattle.class_model.specs.declared.class.FieldDef.{FieldDef}
use Rattle.look_laws.specs.Shown.{is_of_class, statics_before}
use Rattle.program_links.specs.declared.before.Before.{Before}
use Rattle.program_links.specs.Methods.{methods_before}
use Rattle.program_links.specs.Before.{AreBefore}
use Rattle.program_links.proofs.Counted.{before_more, methods_more, statics_more}
use Rattle.program_links.proofs.before.count_before.Goals as goal

pub loop-number-preserved : goal.loop-number-preserved
loop-number-preserved c =
    let set = c.args.set.now in
    let n = c.loop-number.number in
    let class = c.class-class.result.now in
    let i = c.loop-number.invariant in
    let row : Before = record { methods = c.loop-number.methods; statics = c.loop-number.statics; fields = c.in_ok-fields.fields } in
    let pushed : c.push.new.self ≡ c.loop-number.rows ++ row ∷ [] = c.in_ok-push.ensures.ok in
    let methods : methods_before set (n + 1) ≡ methods_before set n + length class.methods = methods_more set n (n + 1) class c.class-class.ensures refl in
    let statics : length (statics_before set (n + 1)) ≡ length (statics_before set n) + length (filter is_of_class class.fields) = statics_more set n (n + 1) class c.class-class.ensures refl in
    let own : c.count_statics.result ≡ length (filter is_of_class class.fields) = c.count_statics.ensures ∙ ap (λ (fields : List FieldDef). length (filter is_of_class fields)) c.as_slice.ensures in
    record {
      are = subst (λ (rows : List Before). AreBefore set rows (n + 1)) (sym pushed)
          (before_more set c.loop-number.rows n (n + 1) class row i.are i.count c.class-class.ensures (record { methods = i.methods_are; statics = i.statics_are; fields = c.in_ok-fields.ensures }) refl);
      count = ap length pushed ∙ length_push c.loop-number.rows row ∙ ap (λ k. k + 1) i.count;
      methods_are = omega (arith, c.in_ok-methods.ensures, c.len.ensures, methods, i.methods_are);
      statics_are = omega (arith, c.in_ok-statics.ensures, own, statics, i.statics_are);
    }
