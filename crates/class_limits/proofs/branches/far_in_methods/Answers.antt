use Rattle.std.proofs.Common.{◌∙◌, sym}
use Rattle.class_model.specs.declared.class.MethodDef.{MethodDef}
use Rattle.class_limits.specs.Limits.{first, codes_in, far_in_code}
use Rattle.class_limits.proofs.First.{none_more, found_here, none_in_all}
use Rattle.class_limits.proofs.FarBranches.{sizes_in, first_flat}
use Rattle.class_limits.proofs.branches.far_in_methods.Goals as goal

pub far_in_method-requires : goal.far_in_method-requires
far_in_method-requires c = sizes_in _ _ _ c.requires c.loop-method-test.true c.method-item.is

pub returns-in-Some : goal.returns-in-Some
returns-in-Some c =
    let f = λ (method : MethodDef). first far_in_code (codes_in method) in
    sym (first_flat far_in_code codes_in c.args.methods.now ∙ found_here f _ _ _ _ c.loop-method.invariant c.loop-method-test.true c.method-item.is (sym c.in_ok-distance.ensures ∙ c.in-Some.is))

pub loop-method-preserved : goal.loop-method-preserved
loop-method-preserved c = none_more _ _ _ _ c.loop-method.invariant c.loop-method-test.true c.method-item.is (sym c.in_ok-distance.ensures ∙ c.in_default.is)

pub returns : goal.returns
returns c = sym (first_flat far_in_code codes_in c.args.methods.now ∙ none_in_all _ _ _ c.loop-method.invariant c.loop-method-test.false)
