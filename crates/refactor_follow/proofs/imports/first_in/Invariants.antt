-- What the loop of `imports::first_in` keeps: the first conflict of the imports that were passed.
use Rattle.types_declared.specs.PackageView.{package_of}
use Rattle.refs_binding.specs.Uses.{IsCheckedPackage}
use Rattle.refs_binding.specs.Workspaces.{known_in}
use Rattle.refactor_follow.specs.FirstConflicts.{IsFirstOfImports}
use Rattle.refactor_follow.proofs.imports.first_in.Given as goal

abbrev pub invariant-loop-d : goal.invariant-loop-d
invariant-loop-d l =
    IsFirstOfImports (IsCheckedPackage l.at.workspace.now.graph (known_in l.at.workspace.now.findings)) (package_of l.unit) l.new.path.now l.new.name.now
    l.d l.first
