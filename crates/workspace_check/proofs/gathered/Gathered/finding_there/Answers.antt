-- The answers to the goals of `gathered::Gathered::finding_there`.
use Rattle.workspace_check.proofs.gathered.Gathered.finding_there.Goals as goal

pub unreachable-requires : goal.unreachable-requires
unreachable-requires c = c.in-None.ensures c.requires.0 c.requires.1
