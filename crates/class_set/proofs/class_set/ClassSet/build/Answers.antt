use Rattle.std.proofs.Common.{◌≡◌, ◌∙◌, ap, sym, subst, None}
use Rattle.set_lookups.specs.Answer.{link_fault}
use Rattle.set_lookups.specs.Rows.{Ranked}
use Rattle.class_set.specs.Answer.{IsFault}
use Rattle.class_set.specs.Faults.{first_fault}
use Rattle.class_set.proofs.Told.{err_told, links_told, are_linked, of_linked, each_passes}
use Rattle.class_set.proofs.class_set.ClassSet.build.Goals as goal

pub returns-in_err-set : goal.returns-in_err-set
returns-in_err-set c = err_told c.from_residual.result _ _ _ c.from_residual.ensures.1 (links_told c.args.classes c.in_err-set.field-0.0 c.in_err-set.ensures)

pub judge_linked-requires-clause-ranked : goal.judge_linked-requires-clause-ranked
judge_linked-requires-clause-ranked c = (c.set.inside.parts.value.ranks, subst (λ set. Ranked set c.set.inside.parts.value.ranks) c.set.view_is c.set.invariant.ranked)

pub returns-in_err-judge_linked : goal.returns-in_err-judge_linked
returns-in_err-judge_linked c =
    let same = c.in_ok-set.ensures.0 in
    let fault = c.in_err-judge_linked.field-0.0 in
    let linked = ap link_fault same ∙ c.in_ok-set.ensures.1 in
    let told = subst (λ found. IsFault found fault) (sym (of_linked c.in_ok-set.set linked)) c.in_err-judge_linked.ensures in
    err_told c.from_residual-in_err-judge_linked.result _ _ _ c.from_residual-in_err-judge_linked.ensures.1 (subst (λ set. IsFault (first_fault set) fault) same told)

pub of-requires : goal.of-requires
of-requires c =
    let linked = are_linked c.in_ok-set.set (ap link_fault c.in_ok-set.ensures.0 ∙ c.in_ok-set.ensures.1) in
    let passed = each_passes c.in_ok-set.set c.in_ok-judge_linked.ensures in
    record {
      distinct = linked.0;
      present = linked.1;
      acyclic = linked.2;
      extendable = passed.0;
      core_classes = passed.1;
      resolved = passed.2;
      of_right_kind = passed.3;
      implemented = passed.4;
    }

pub returns : goal.returns
returns c =
    let same = c.in_ok-set.ensures.0 in
    let linked = ap link_fault same ∙ c.in_ok-set.ensures.1 in
    (c.of.ensures ∙ same, subst (λ set. first_fault set ≡ None) same (of_linked c.in_ok-set.set linked ∙ c.in_ok-judge_linked.ensures))
