-- What the loop of `changes::changes_in` keeps.
use Rattle.std.proofs.Common.{drop}
use Rattle.refs_binding.specs.Workspaces.{known_in}
use Rattle.refactor_rename.proofs.Changing.{Changing}
use Rattle.refactor_rename.proofs.changes.changes_in.Given as goal

abbrev pub invariant-loop-path : goal.invariant-loop-path
invariant-loop-path l = Changing l.workspace.graph (known_in l.workspace.findings) l.renamed (drop l.path-index l.paths) l.changed.items
