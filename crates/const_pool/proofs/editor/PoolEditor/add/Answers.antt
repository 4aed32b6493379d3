use Rattle.std.proofs.Common.{◌≡◌, ◌∙◌, ◌+◌, ◌≤◌, ◌++◌, ℕ, length, refl, sym, ap, subst, arith}
use Rattle.const_pool.specs.Pool.{Pool, Refers, entry_at, slots_of}
use Rattle.const_pool.proofs.EditorLaws.{not_held, inserted, grown, editor_more, append_extends, entry_new}
use Rattle.const_pool.proofs.editor.PoolEditor.add.Goals as goal

pub returns-then-last-gt-LAST_INDEX-clause-found :
    goal.returns-then-last-gt-LAST_INDEX-clause-found
returns-then-last-gt-LAST_INDEX-clause-found c = not_held c.self.inside.indices.entries c.args.self.now c.args.entry c.self.view_is c.in_default.ensures.absent

pub returns-in_err-insert-clause-found : goal.returns-in_err-insert-clause-found
returns-in_err-insert-clause-found c = λ held. absurd (not_held c.self.inside.indices.entries c.args.self.now c.args.entry c.self.view_is c.in_default.ensures.absent held)

pub returns-clause-found : goal.returns-clause-found
returns-clause-found c = λ held. absurd (not_held c.self.inside.indices.entries c.args.self.now c.args.entry c.self.view_is c.in_default.ensures.absent held)

pub invariant_of-self-2 : goal.invariant_of-self-2
invariant_of-self-2 c =
    let rows = c.self.inside.indices.entries in
    let e = c.args.entry in
    let taken = c.self.inside.taken in
    let last = c.from.result + c.width.result in
    let is = c.in_ok-insert.ensures.entries ∙ inserted rows e (taken + 1) c.in_default.ensures.absent in
    let refers = subst (λ (p : Pool). Refers p e) (sym c.self.view_is) c.requires.refers in
    let count : last ≡ taken + length (slots_of e) = omega (arith, c.from.ensures, c.width.ensures) in
    let small : last ≤ 65534 = omega (arith, c.if-last-gt-LAST_INDEX.false) in
    rw is (editor_more rows taken e (taken + 1) last c.self.invariant c.requires.text refers refl count small)

pub returns-clause-index : goal.returns-clause-index
returns-clause-index c =
    let e = c.args.entry in
    let p = c.args.self.now in
    let k = c.self.inside.taken + 1 in
    let view = grown c.self.inside.indices.entries c.insert.new.self.entries p e k c.self.view_is c.in_default.ensures.absent c.in_ok-insert.ensures.entries in
    let index : k ≡ length p + 1 = ap (λ (n : ℕ). n + 1) (c.self.invariant.taken_is ∙ ap length c.self.view_is) in
    ap (λ (z : Pool). entry_at z k) view ∙ ap (entry_at (p ++ slots_of e)) index ∙ entry_new p e

pub returns-clause-added : goal.returns-clause-added
returns-clause-added c =
    let p = c.args.self.now in
    let view = grown c.self.inside.indices.entries c.insert.new.self.entries p c.args.entry (c.self.inside.taken + 1) c.self.view_is c.in_default.ensures.absent c.in_ok-insert.ensures.entries in
    let taken_is : c.self.inside.taken ≡ length p = c.self.invariant.taken_is ∙ ap length c.self.view_is in
    λ absent. (omega (arith, c.from.ensures, c.width.ensures, c.if-last-gt-LAST_INDEX.false), ap (λ (n : ℕ). n + 1) taken_is, view)

pub returns-clause-kept : goal.returns-clause-kept
returns-clause-kept c =
    let p = c.args.self.now in
    let view = grown c.self.inside.indices.entries c.insert.new.self.entries p c.args.entry (c.self.inside.taken + 1) c.self.view_is c.in_default.ensures.absent c.in_ok-insert.ensures.entries in
    λ k e h. ap (λ (z : Pool). entry_at z k) view ∙ append_extends p (slots_of c.args.entry) k e h
