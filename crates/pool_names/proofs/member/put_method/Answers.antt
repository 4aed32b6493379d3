use Rattle.std.proofs.Common.{ℕ, Bool, true, false, sym, subst}
use Rattle.const_pool.specs.declared.entry.Entry.{Entry}
use Rattle.const_pool.specs.Pool.{Pool, IsMember, Refers, as_class}
use Rattle.const_pool.proofs.EditorLaws.{named_extends}
use Rattle.pool_names.specs.Spelling.{method_entry}
use Rattle.pool_names.proofs.Naming.{type_named, pair_named}
use Rattle.pool_names.proofs.member.put_method.Goals as goal

member_refers : (p : Pool) (in_interface : Bool) (k m : ℕ) → IsMember p k m → Refers p (method_entry in_interface k m)
member_refers p true k m h = h
member_refers p false k m h = h

pub add-requires-clause-refers : goal.add-requires-clause-refers
add-requires-clause-refers c =
    let p = c.put_type.new.pool in
    let q = c.put_name_and_type.new.pool in
    let pair = pair_named c.args.method.now.name c.in_ok-descriptor.descriptor p q c.in_ok-pair.pair c.in_ok-pair.ensures in
    let class = named_extends as_class p q c.in_ok-class.class pair.0 (type_named c.args.method.now.class c.args.pool.now p c.in_ok-class.class c.in_ok-class.ensures) in
    subst (λ (e : Entry). Refers q e) (sym c.method_entry.ensures) (member_refers q c.args.method.now.in_interface c.in_ok-class.class c.in_ok-pair.pair (class, pair.1))
