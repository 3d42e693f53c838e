-- The answers to the goals of `bytes::affected_moves_keep_other_bytes`.
use Rattle.law_plans.proofs.KeptBytes.{moves_keep_bytes}
use Rattle.law_plans.proofs.affected_bytes.affected_moves_keep_other_bytes.Goals as goal

pub returns : goal.returns
returns c = moves_keep_bytes
