-- The answer to the goal of `program_trees::token_numbers_may_change`.
use Rattle.law_gained_names.proofs.Files.{token_numbers_may_change}
use Rattle.law_gained_names.proofs.program_trees.token_numbers_may_change.Goals as goal

pub returns : goal.returns
returns c = token_numbers_may_change
