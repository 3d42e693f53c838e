-- The answers to the goals of `earlier::EarlierClone::clone`.
use Rattle.workspace_check.proofs.earlier.EarlierClone.clone.Goals as goal

pub invariant_of-result : goal.invariant_of-result
invariant_of-result c = rw c.in_ok-parts.ensures c.self.invariant
