-- What the loop of `targets::is_taken` keeps: no file that was passed lies in the folder.
use Rattle.std.specs.FinMap as map
use Rattle.refactor_plan.proofs.Taken.{AreLeft}
use Rattle.refactor_plan.proofs.targets.is_taken.Given as goal

abbrev pub invariant-loop-path : goal.invariant-loop-path
invariant-loop-path l = AreLeft l.folder (map.entries l.files) l.path-iterator
