use Rattle.std.proofs.Common.{◌∙◌, ◌≤◌, List, length, sym, subst}
use Rattle.std.specs.Prelude.{All}
use Rattle.std.proofs.lemmas.Result.{err_from_is_err_and}
use Rattle.std.proofs.lemmas.List.Elements.{All-same}
use Rattle.class_model.specs.declared.class.ClassDef.{ClassDef}
use Rattle.class_shape.specs.Shaped.{Shaped}
use Rattle.set_lookups.specs.Counts.{AreCounted}
use Rattle.class_set.specs.Closed.{Closed}
use Rattle.profile_check.specs.Profile.{IsCounted, Profile}
use Rattle.set_loader.specs.Passes.{RefusesProfile, RefusesSet}
use Rattle.set_loader.proofs.Files.{classes_counted, classes_shaped}
use Rattle.set_loader.proofs.Bases.{all_shaped, base_counted, base_checkable}
use Rattle.set_loader.proofs.Loading.{few_classes, profile_refused, set_refused, types_judged, types_kept}
use Rattle.set_loader.proofs.load.judge.Goals as goal

pub judge_profile-requires-clause-few : goal.judge_profile-requires-clause-few
judge_profile-requires-clause-few c =
    subst (λ (cs : List ClassDef). length cs ≤ 1000000) (sym c.deref.ensures.value) (few_classes c.args.files.now c.in_ok-classes.classes.items c.requires c.in_ok-classes.ensures)

pub judge_profile-requires-clause-counted : goal.judge_profile-requires-clause-counted
judge_profile-requires-clause-counted c =
    All-same IsCounted c.deref.result.now c.in_ok-classes.classes.items c.deref.ensures.value (classes_counted c.args.files.now c.in_ok-classes.classes.items c.in_ok-classes.ensures)

pub returns-in_err-judge_profile-clause-answer : goal.returns-in_err-judge_profile-clause-answer
returns-in_err-judge_profile-clause-answer c =
    let p = err_from_is_err_and c.from_residual-in_err-judge_profile.result c.from_residual-in_err-judge_profile.ensures.1 in
    let stop = c.in_err-judge_profile.field-0.0 in
    let refused = subst (λ (cs : List ClassDef). RefusesProfile c.args.names cs stop) c.deref.ensures.value c.in_err-judge_profile.ensures in
    rw (p.1, p.2) (profile_refused c.args.names c.args.files.now c.in_ok-classes.classes.items stop c.in_ok-classes.ensures refused)

pub judge_set-requires : goal.judge_set-requires
judge_set-requires c =
    let read = c.in_ok-classes.ensures in
    let classes = c.in_ok-classes.classes.items in
    base_counted classes c.in_ok-set.set (few_classes c.args.files.now classes c.requires read) (classes_counted c.args.files.now classes read) c.in_ok-set.ensures

pub returns-in_err-closed-clause-answer : goal.returns-in_err-closed-clause-answer
returns-in_err-closed-clause-answer c =
    let p = err_from_is_err_and c.from_residual-in_err-closed.result c.from_residual-in_err-closed.ensures.1 in
    let stop = c.in_err-closed.field-0.0 in
    let classes = c.in_ok-classes.classes.items in
    let inside = All-same (Profile c.args.names) classes c.deref.result.now (sym c.deref.ensures.value) c.in_ok-judge_profile.ensures in
    let refused = subst (λ (cs : List ClassDef). RefusesSet cs stop) c.in_ok-set.ensures c.in_err-closed.ensures in
    rw (p.1, p.2) (set_refused c.args.names c.args.files.now classes stop c.in_ok-classes.ensures inside refused)

pub judge_types-requires : goal.judge_types-requires
judge_types-requires c =
    let read = c.in_ok-classes.ensures in
    let classes = c.in_ok-classes.classes.items in
    let files = c.args.files.now in
    let inside = All-same (Profile c.args.names) classes c.deref.result.now (sym c.deref.ensures.value) c.in_ok-judge_profile.ensures in
    base_checkable c.args.names classes c.in_ok-closed.closed (few_classes files classes c.requires read) (classes_counted files classes read) (classes_shaped files classes read) inside
    (c.in_ok-closed.ensures.0 ∙ c.in_ok-set.ensures)

pub returns-clause-answer : goal.returns-clause-answer
returns-clause-answer c =
    let classes = c.in_ok-classes.classes.items in
    let closed = c.in_ok-closed.closed in
    let inside = All-same (Profile c.args.names) classes c.deref.result.now (sym c.deref.ensures.value) c.in_ok-judge_profile.ensures in
    types_judged c.args.names c.args.files.now classes closed c.judge_types.result c.in_ok-classes.ensures inside
    (c.in_ok-closed.ensures.0 ∙ c.in_ok-set.ensures) (subst Closed (sym c.in_ok-closed.ensures.0) c.in_ok-closed.ensures.1) c.judge_types.ensures

pub returns-clause-counted : goal.returns-clause-counted
returns-clause-counted c =
    let read = c.in_ok-classes.ensures in
    let classes = c.in_ok-classes.classes.items in
    types_kept AreCounted c.in_ok-closed.closed c.judge_types.result
    (base_counted classes c.in_ok-closed.closed (few_classes c.args.files.now classes c.requires read) (classes_counted c.args.files.now classes read) (c.in_ok-closed.ensures.0 ∙ c.in_ok-set.ensures))
    c.judge_types.ensures

pub returns-clause-shaped : goal.returns-clause-shaped
returns-clause-shaped c =
    let classes = c.in_ok-classes.classes.items in
    let inside = All-same (Profile c.args.names) classes c.deref.result.now (sym c.deref.ensures.value) c.in_ok-judge_profile.ensures in
    types_kept (All Shaped) c.in_ok-closed.closed c.judge_types.result
    (all_shaped c.args.names classes c.in_ok-closed.closed (classes_shaped c.args.files.now classes c.in_ok-classes.ensures) inside (c.in_ok-closed.ensures.0 ∙ c.in_ok-set.ensures))
    c.judge_types.ensures
