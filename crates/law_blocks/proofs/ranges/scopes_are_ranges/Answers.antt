-- The answers to the goals of `ranges::scopes_are_ranges`.
use Rattle.law_blocks.proofs.RangedPackages.{scopes_are}
use Rattle.law_blocks.proofs.ranges.scopes_are_ranges.Goals as goal

pub returns : goal.returns
returns c = scopes_are
