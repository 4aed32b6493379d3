use Rattle.std.proofs.Common.{◌≡◌, ◌∙◌, ◌+◌, ◌-◌, ◌++◌, ◌∷◌, [], ℕ, ◌<◌, Option, Some, arith, length, sym, ap, subst}
use Rattle.std.specs.Prelude.{IfSome}
use Rattle.set_lookups.specs.Lookups.{supers}
use Rattle.program_links.specs.Upwards.{going_up, AreClasses}
use Rattle.program_links.proofs.GoingUp.{one_up, one_more}
use Rattle.program_links.proofs.upwards.upwards.Goals as goal

within_some : {next : Option ℕ} {at count : ℕ} → next ≡ Some at → IfSome next (λ n. n < count) → at < count
within_some {count = count} e h = subst (λ next. IfSome next (λ n. n < count)) e h

pub loop-step-preserved : goal.loop-step-preserved
loop-step-preserved c =
    let set = c.args.set.now in
    let step = c.loop-step._step in
    let at = c.in-Some.at in
    let numbers = c.loop-step.numbers in
    let below = length set + 1 - (step + 1) in
    let left : length set + 1 - step ≡ below + 1 = omega (arith, c.loop-step-test.true, c.loop-step.auto._step-end, c.from-step-end.ensures, c.len.ensures) in
    let pushed : c.push.new.self ≡ numbers ++ at ∷ [] = c.in_ok-push.ensures.ok in
    let old = c.loop-step.invariant.all ∙ ap (λ next. numbers ++ going_up (length set + 1 - step) set next) c.in-Some.is in
    record {
      all = one_up set (supers set c.args.number) numbers at (length set + 1 - step) below old left
          ∙ ap (λ next. (numbers ++ at ∷ []) ++ going_up below set next) c.up-next.ensures.next
          ∙ ap (λ front. front ++ going_up below set c.up-next.result) (sym pushed);
      within = subst (AreClasses set) (sym pushed) (one_more set numbers at c.loop-step.invariant.within (within_some c.in-Some.is c.loop-step.invariant.next_within));
      next_within = c.up-next.ensures.within;
    }
