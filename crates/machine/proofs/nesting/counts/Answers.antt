use Rattle.std.proofs.Common.{◌≡◌, ◌+◌, ◌-◌, [], ◌∷◌, ◌++◌, reverse, take, refl, sym, ap, ◌∙◌, to_z, of_z, to_z-of_z, w32, arith}
use Rattle.run_state.specs.Objects.{counts_of}
use Rattle.machine_words.specs.Tops.{as_int}
use Rattle.machine.proofs.NativeRows.{argument_at, args_long}
use Rattle.machine.proofs.NestedArrays.{count_next, count_none, counts_all}
use Rattle.machine.proofs.nesting.counts.Goals as goal

pub returns-in_default : goal.returns-in_default
returns-in_default g c =
    let st = c.args.stack.now in
    let k = c.loop-k.k in
    let args = reverse (take c.args.words st) in
    count_none args k c.loop-k.counts (counts_of args) (sym (ap as_int (argument_at st c.args.words k (c.args.words - 1 - k) c.requires c.loop-k-test.true refl)) ∙ sym c.in_default.ensures)
    (omega (arith, args_long st c.args.words c.requires)) c.loop-k.invariant

pub loop-k-preserved : goal.loop-k-preserved
loop-k-preserved g c =
    let st = c.args.stack.now in
    let k = c.loop-k.k in
    let v = c.in-Some.count in
    let back : to_z w32 (of_z w32 v) ≡ v = grind (arith, to_z-of_z) in
    let args = reverse (take c.args.words st) in
    count_next args k (k + 1) c.loop-k.counts c.push.new.self v c.in-Some.field-0-1 (counts_of args) (sym (ap as_int (argument_at st c.args.words k (c.args.words - 1 - k) c.requires c.loop-k-test.true refl)) ∙ sym c.in-Some.ensures)
    c.loop-k.invariant (c.in_ok-push.ensures.ok ∙ ap (λ x. c.loop-k.counts ++ x ∷ []) back) refl

pub returns : goal.returns
returns g c =
    let st = c.args.stack.now in
    let args = reverse (take c.args.words st) in
    counts_all args c.loop-k.k c.loop-k.counts (counts_of args) (omega (arith, args_long st c.args.words c.requires)) c.loop-k.invariant
