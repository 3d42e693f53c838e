-- The answer to the goal of `bytes::moves_keep_other_bytes`.
use Rattle.law_plans.proofs.KeptBytesMoves.{moves_keep}
use Rattle.law_plans.proofs.bytes.moves_keep_other_bytes.Goals as goal

pub returns : goal.returns
returns c = moves_keep
