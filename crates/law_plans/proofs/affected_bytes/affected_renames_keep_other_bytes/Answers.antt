-- The answers to the goals of `bytes::affected_renames_keep_other_bytes`.
use Rattle.law_plans.proofs.KeptBytes.{renames_keep_bytes}
use Rattle.law_plans.proofs.affected_bytes.affected_renames_keep_other_bytes.Goals as goal

pub returns : goal.returns
returns c = renames_keep_bytes
