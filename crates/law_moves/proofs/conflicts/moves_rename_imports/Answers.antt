-- The answers to the goals of `conflicts::moves_rename_imports`.
use Rattle.law_moves.proofs.ImportsFollow.{rename_imports, same_bindings}
use Rattle.law_moves.proofs.conflicts.moves_rename_imports.Goals as goal

pub returns-clause-renames : goal.returns-clause-renames
returns-clause-renames c = rename_imports

pub returns-clause-same : goal.returns-clause-same
returns-clause-same c = same_bindings
