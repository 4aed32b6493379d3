use Rattle.std.proofs.Common.{ℕ, ◌+◌, List, drop, ap, ◌∙◌}
use Rattle.std.specs.Prelude.{ℤ}
use Rattle.std.proofs.lemmas.Result.{err_from_is_err_and}
use Rattle.class_input.specs.declared.bad_class.BadKind.TheVariants.{Target}
use Rattle.insn_code.specs.Linking.{row_lead, all_of}
use Rattle.insn_code.proofs.LinkLaws.{behind, behind_nil, goes_on, ends, is_done}
use Rattle.insn_code.proofs.link.row_leads.Goals as goal

pub loop-row-init : goal.loop-row-init
loop-row-init c =
    let whole = all_of (row_lead c.args.starts.now.starts c.args.pc) c.args.rows.now in
    ap (λ (z : List (ℤ × ℕ)). behind z whole) c.in_ok-targets.ensures ∙ behind_nil whole

pub loop-row-preserved : goal.loop-row-preserved
loop-row-preserved c =
    let f = row_lead c.args.starts.now.starts c.args.pc in
    let xs = c.args.rows.now in
    let i = c.loop-row.row-index in
    ap (λ (z : List (ℤ × ℕ)). behind z (all_of f (drop (i + 1) xs))) c.in_ok-push.ensures.ok
    ∙ goes_on f xs i _ c.args.place Target c.loop-row.targets c.in_ok-target.target (all_of f xs) c.loop-row-test.true c.in_ok-target.ensures c.loop-row.invariant

pub returns-in_err-target : goal.returns-in_err-target
returns-in_err-target c =
    let p = err_from_is_err_and c.from_residual-in_err-target.result c.from_residual-in_err-target.ensures.1 in
    let f = row_lead c.args.starts.now.starts c.args.pc in
    let xs = c.args.rows.now in
    rw (p.1, p.2) (ends f xs c.loop-row.row-index _ c.args.place Target c.in_err-target.field-0.0 c.loop-row.targets (all_of f xs) c.loop-row-test.true c.in_err-target.ensures c.loop-row.invariant)

pub returns : goal.returns
returns c =
    let f = row_lead c.args.starts.now.starts c.args.pc in
    let xs = c.args.rows.now in
    is_done f xs c.loop-row.row-index c.args.place Target c.loop-row.targets (all_of f xs) c.loop-row-test.false c.loop-row.invariant
