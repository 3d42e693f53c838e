-- Each file is left, or its path was pushed.
use Rattle.workspace_parsing.proofs.AllPaths.{ArePassed}
use Rattle.workspace_parsing.proofs.task.all_paths.Given as goal

abbrev pub invariant-loop-path : goal.invariant-loop-path
invariant-loop-path l = ArePassed l.files l.path-iterator l.paths.items
