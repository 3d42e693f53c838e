-- The answers to the goals of `imports::first_in`.
use Rattle.std.proofs.Common.{◌+◌, sym, subst}
use Rattle.types_declared.specs.PackageView.{package_of}
use Rattle.refs_binding.specs.Uses.{IsCheckedPackage}
use Rattle.refs_binding.specs.Workspaces.{known_in}
use Rattle.refs_binding.proofs.Units.{list_of_sound}
use Rattle.refactor_decide.proofs.Written.{all_count}
use Rattle.refactor_follow.specs.FirstConflicts.{IsFirstOfImports}
use Rattle.refactor_follow.proofs.Steps.{next_below}
use Rattle.refactor_follow.proofs.imports.first_in.Goals as goal

pub conflict_of-requires-clause-all_count : goal.conflict_of-requires-clause-all_count
conflict_of-requires-clause-all_count c =
    let w = c.args.at.workspace.now.graph in
    let found = c.args.at.workspace.now.findings in
    all_count w (list_of_sound w found c.has_no_faults.ensures) (known_in found) c.has_no_faults.ensures.findings.right (package_of c.args.unit)
    c.requires.unit.is_package

pub loop-d-preserved : goal.loop-d-preserved
loop-d-preserved c =
    let w = c.args.at.workspace.now.graph in
    let found = c.args.at.workspace.now.findings in
    let p = package_of c.args.unit in
    let path = c.args.new.path.now in
    let name = c.args.new.name.now in
    subst (IsFirstOfImports (IsCheckedPackage w (known_in found)) p path name (c.loop-d.d + 1)) (sym c.earlier-first.ensures)
    (next_below w (list_of_sound w found c.has_no_faults.ensures) (known_in found) c.has_no_faults.ensures.findings.right path name p
    c.requires.unit.is_package c.loop-d.d c.loop-d.first c.in_ok-found.found c.loop-d.invariant c.in_ok-found.ensures)
