-- The answers to the goals of `earlier::Earlier::new`.
use Rattle.workspace_check.proofs.earlier.Earlier.new.Goals as goal

pub invariant_of-result : goal.invariant_of-result
invariant_of-result c = rw c.in_ok-parts.ensures.ok c.requires
