use Rattle.std.proofs.Common.{ℕ, ◌+◌, List, drop, get_or, pos, w32, ap, sym, subst, ◌∙◌, rules, FitsSigned}
use Rattle.std.specs.Prelude.{ℤ}
use Rattle.std.proofs.lemmas.Int.{to_z-of_z}
use Rattle.std.proofs.lemmas.Result.{err_from_is_err_and}
use Rattle.class_input.specs.declared.bad_class.BadKind.TheVariants.{Target}
use Rattle.class_input.specs.Reading.{Fails}
use Rattle.class_names.specs.Steps.{fit}
use Rattle.insn_code.specs.Linking.{lead, all_of}
use Rattle.insn_code.proofs.LinkLaws.{behind, behind_nil, goes_on, ends, is_done}
use Rattle.insn_code.proofs.link.leads.Goals as goal

pub loop-distance-init : goal.loop-distance-init
loop-distance-init c =
    let whole = all_of (lead c.args.starts.now.starts c.args.pc) c.args.distances.now in
    ap (λ (z : List ℕ). behind z whole) c.in_ok-targets.ensures ∙ behind_nil whole

pub loop-distance-preserved : goal.loop-distance-preserved
loop-distance-preserved c =
    let f = lead c.args.starts.now.starts c.args.pc in
    let xs = c.args.distances.now in
    let i = c.loop-distance.distance-index in
    let x = get_or xs i (pos 0) in
    let fits : FitsSigned w32 x = search rules in
    let passed = to_z-of_z w32 x fits in
    ap (λ (z : List ℕ). behind z (all_of f (drop (i + 1) xs))) c.in_ok-push.ensures.ok
    ∙ goes_on f xs i (pos 0) c.args.place Target c.loop-distance.targets c.in_ok-target.target (all_of f xs) c.loop-distance-test.true (ap (λ (z : ℤ). fit c.args.place Target (f z)) (sym passed) ∙ c.in_ok-target.ensures) c.loop-distance.invariant

pub returns-in_err-target : goal.returns-in_err-target
returns-in_err-target c =
    let p = err_from_is_err_and c.from_residual-in_err-target.result c.from_residual-in_err-target.ensures.1 in
    let f = lead c.args.starts.now.starts c.args.pc in
    let xs = c.args.distances.now in
    let x = get_or xs c.loop-distance.distance-index (pos 0) in
    let fits : FitsSigned w32 x = search rules in
    let failed = subst (λ (z : ℤ). Fails c.in_err-target.field-0.0 (fit c.args.place Target (f z))) (to_z-of_z w32 x fits) c.in_err-target.ensures in
    rw (p.1, p.2) (ends f xs c.loop-distance.distance-index (pos 0) c.args.place Target c.in_err-target.field-0.0 c.loop-distance.targets (all_of f xs) c.loop-distance-test.true failed c.loop-distance.invariant)

pub returns : goal.returns
returns c =
    let f = lead c.args.starts.now.starts c.args.pc in
    let xs = c.args.distances.now in
    is_done f xs c.loop-distance.distance-index c.args.place Target c.loop-distance.targets (all_of f xs) c.loop-distance-test.false c.loop-distance.invariant
