-- The answers to the goals of `ranges::packages_are_bound_by_ranges`.
use Rattle.law_blocks.proofs.RangedBindings.{packages_are_bound}
use Rattle.law_blocks.proofs.ranges.packages_are_bound_by_ranges.Goals as goal

pub returns : goal.returns
returns c = packages_are_bound
