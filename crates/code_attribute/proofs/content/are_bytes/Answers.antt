use Rattle.std.proofs.Common.{arith}
use Rattle.code_attribute.proofs.content.are_bytes.Goals as goal

pub returns : goal.returns
returns c = λ i. omega (arith, c.type_inv.text i)
