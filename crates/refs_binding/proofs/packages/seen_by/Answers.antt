-- The export table of findings is whole.
use Rattle.refs_binding.proofs.packages.seen_by.Goals as goal

pub seen-requires-clause-whole : goal.seen-requires-clause-whole
seen-requires-clause-whole c = c.workspace.invariant.findings.whole
