-- What the loop of `packages::read_among` keeps: the first conflict and the marks of the packages that were passed.
use Rattle.std.proofs.Common.{◌≡◌, length}
use Rattle.base_files.specs.Packages.{package_paths}
use Rattle.refs_binding.specs.Workspaces.{known_in}
use Rattle.refactor_follow.specs.FirstConflicts.{IsFirstAmong}
use Rattle.refactor_follow.specs.MoveReadings.{MarksAmong}
use Rattle.refactor_follow.proofs.packages.read_among.Given as goal

abbrev pub invariant-loop-i : goal.invariant-loop-i
invariant-loop-i l =
    IsFirstAmong l.workspace.graph (known_in l.workspace.findings) l.new.path.now l.new.name.now l.numbers l.i l.conflict ×
    MarksAmong l.workspace.graph (known_in l.workspace.findings) l.new.path.now l.numbers l.i l.uses.items ×
    (length l.uses.items ≡ length (package_paths l.workspace.graph))
