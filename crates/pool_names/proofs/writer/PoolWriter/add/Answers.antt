use Rattle.std.proofs.Common.{◌≡◌, ℕ, Result, Ok, Err, subst, Some}
use Rattle.std.specs.Prelude.{IfOk, OnErr}
use Rattle.const_pool.specs.declared.entry.Entry.{Entry}
use Rattle.const_pool.specs.declared.editor.PoolStop.{PoolStop}
use Rattle.const_pool.specs.Pool.{Pool, entry_at}
use Rattle.pool_names.specs.Adding.{Puts, add_entry}
use Rattle.pool_names.proofs.Entries.{puts_entry, stays_distinct}
use Rattle.pool_names.proofs.writer.PoolWriter.add.Goals as goal

named : (q : Pool) (e : Entry) (result : Result ℕ PoolStop) → IfOk result (λ k. entry_at q k ≡ Some e) → (k : ℕ) → result ≡ Ok k → entry_at q k ≡ Some e
named q e (Ok m) h k is = let same : m ≡ k = cc in subst (λ (z : ℕ). entry_at q z ≡ Some e) same h
named q e (Err stop) h k is = absurd cc

kept : (p q : Pool) (result : Result ℕ PoolStop) → OnErr result (q ≡ p) → (stop : PoolStop) → result ≡ Err stop → q ≡ p
kept p q (Ok k) h stop is = absurd cc
kept p q (Err other) h stop is = h

pub invariant_of-self : goal.invariant_of-self
invariant_of-self c =
    let p = c.self.inside.editor in
    stays_distinct c.args.entry p c.add.new.self c.add.result c.self.invariant (kept p c.add.new.self c.add.result c.add.ensures.err) c.add.ensures.found c.add.ensures.added

pub returns : goal.returns
returns c =
    let e = c.args.entry in
    let p = c.self.inside.editor in
    let q = c.add.new.self in
    subst (λ (z : Pool). Puts c.add.result q (add_entry e z)) c.self.view_is
    (puts_entry e p q c.add.result c.self.invariant (named q e c.add.result c.add.ensures.index) c.add.ensures.found c.add.ensures.added)
