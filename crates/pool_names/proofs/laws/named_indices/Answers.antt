use Rattle.pool_names.proofs.Naming.{bytes_claims, text_claims, class_claims, type_claims, field_type_claims, desc_claims, field_claims, method_claims, int_claims, long_claims, string_claims, constant_claims}
use Rattle.pool_names.proofs.laws.named_indices.Goals as goal

pub returns : goal.returns
returns c = record {
  bytes = bytes_claims;
  text = text_claims;
  class = class_claims;
  type_ = type_claims;
  field_type = field_type_claims;
  desc = desc_claims;
  field = field_claims;
  method = method_claims;
  int = int_claims;
  long = long_claims;
  string = string_claims;
  constant = constant_claims;
}
