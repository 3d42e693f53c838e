-- The answers to the goals of `ranges::starts_are_ends_of_specs`.
use Rattle.law_blocks.proofs.RangedPackages.{starts_are}
use Rattle.law_blocks.proofs.ranges.starts_are_ends_of_specs.Goals as goal

pub returns : goal.returns
returns c = starts_are
