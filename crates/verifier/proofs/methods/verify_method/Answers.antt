use Rattle.verifier.specs.Set.{with_code}
use Rattle.verifier.specs.Exact.{Exact}
use Rattle.verifier.proofs.Exactly.{exact, found}
use Rattle.verifier.proofs.methods.verify_method.Goals as goal

pub returns : goal.returns
returns c =
    let set = c.args.set.now in
    let id = c.args.method in
    let class = c.class-class.result.now in
    let method = c.at-declared.result.now in
    record {
      exact = found set id (λ m. Exact m c.check_found.result) class method c.in-Some.code c.class-class.ensures c.at-declared.ensures c.in-Some.is (exact (with_code set id.class class method c.in-Some.code) c.check_found.result c.check_found.ensures.ok c.check_found.ensures.err);
    }
