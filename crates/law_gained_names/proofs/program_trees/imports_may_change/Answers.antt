-- The answer to the goal of `program_trees::imports_may_change`.
use Rattle.law_gained_names.proofs.Imports.{imports_may_change}
use Rattle.law_gained_names.proofs.program_trees.imports_may_change.Goals as goal

pub returns : goal.returns
returns c = imports_may_change
