use Rattle.std.proofs.Common.{◌≡◌, ◌+◌, ◌++◌, ◌∷◌, [], List, ℕ, length, arith, refl, sym, subst}
use Rattle.run_state.specs.SetLooks.{method_of}
use Rattle.linked_code.specs.declared.program.Method.{Method}
use Rattle.look_laws.proofs.Distinct.{found_itself}
use Rattle.program_links.specs.Each.{EachTo}
use Rattle.program_links.specs.MethodTo.{MethodTo}
use Rattle.program_links.specs.Methods.{set_methods, methods_before}
use Rattle.program_links.proofs.Growing.{grown_further}
use Rattle.program_links.proofs.EachMore.{each_more}
use Rattle.program_links.proofs.Called.{number_by}
use Rattle.program_links.proofs.Counted.{methods_more}
use Rattle.program_links.proofs.CanLinked.{can_link, methods_grow}
use Rattle.program_links.proofs.methods.link_class.Goals as goal

pub link_method-requires-clause-named : goal.link_method-requires-clause-named
link_method-requires-clause-named c = found_itself c.args.set.now c.args.number c.class-class.result.now c.requires.closed.distinct c.class-class.ensures

pub link_method-requires-clause-ready : goal.link_method-requires-clause-ready
link_method-requires-clause-ready c =
    can_link c.args.set.now c.args.number c.loop-index.index c.class-class.result.now c.at-method.result.now c.requires.closed c.class-class.ensures c.at-method.ensures

pub loop-index-preserved : goal.loop-index-preserved
loop-index-preserved c =
    let set = c.args.set.now in
    let old = c.loop-index.tables in
    let new = c.link_method.new.tables in
    let class = c.class-class.result.now in
    let method = c.at-method.result.now in
    let front = methods_before set c.args.number in
    let at = front + c.loop-index.index in
    let next : front + (c.loop-index.index + 1) ≡ at + 1 = omega arith in
    let pushed : c.push.new.self ≡ c.loop-index.methods ++ c.in_ok-linked.linked ∷ [] = c.in_ok-push.ensures.ok in
    record {
      grows = grown_further c.args.tables.now old new c.loop-index.invariant.grows c.in_ok-linked.ensures.grows;
      each = subst (λ (methods : List Method). EachTo (MethodTo set new) (set_methods set) methods (front + (c.loop-index.index + 1))) (sym pushed)
          (each_more (MethodTo set new) (set_methods set) c.loop-index.methods at (front + (c.loop-index.index + 1)) (method_of class method) c.in_ok-linked.linked
          (methods_grow set old new (set_methods set) c.loop-index.methods at c.in_ok-linked.ensures.grows c.loop-index.invariant.each)
          (number_by set c.args.number c.loop-index.index class method c.class-class.ensures c.at-method.ensures) c.in_ok-linked.ensures.is next);
    }

pub returns-clause-is : goal.returns-clause-is
returns-clause-is c =
    let set = c.args.set.now in
    let class = c.class-class.result.now in
    let more : methods_before set (c.args.number + 1) ≡ methods_before set c.args.number + length class.methods = methods_more set c.args.number (c.args.number + 1) class c.class-class.ensures refl in
    let all : methods_before set c.args.number + c.loop-index.index ≡ methods_before set (c.args.number + 1) =
    omega (arith, more, c.loop-index-test.false, c.loop-index.auto.index-end, c.len-index-end.ensures) in
    subst (λ (count : ℕ). EachTo (MethodTo set c.loop-index.tables) (set_methods set) c.loop-index.methods count) all c.loop-index.invariant.each
