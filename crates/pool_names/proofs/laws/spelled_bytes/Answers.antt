use Rattle.pool_names.proofs.Lists.{u16_claims, u32_claims}
use Rattle.pool_names.proofs.laws.spelled_bytes.Goals as goal

pub returns : goal.returns
returns c = record { two = u16_claims; four = u32_claims }
