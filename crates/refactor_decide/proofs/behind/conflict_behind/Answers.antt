-- The answers to the goals of `behind::conflict_behind`.
use Rattle.types_expr.proofs.Equations.{ok_map}
use Rattle.types_declared.specs.PackageView.{package_of}
use Rattle.refs_binding.specs.Workspaces.{known_in}
use Rattle.refs_binding.proofs.Units.{list_of_sound}
use Rattle.refactor_decide.proofs.FirstBehind.{first_behind, none_behind}
use Rattle.refactor_decide.proofs.Turning.{turned_counts}
use Rattle.refactor_decide.proofs.behind.conflict_behind.Goals as goal

pub first_turned-requires-clause-counts : goal.first_turned-requires-clause-counts
first_turned-requires-clause-counts c =
    turned_counts (package_of c.args.of.now.unit) c.args.n c.args.name.now c.requires.can c.requires.all_count c.in-Some.turned c.in-Some.ensures

pub returns-in-None : goal.returns-in-None
returns-in-None c =
    let w = c.args.at.workspace.now.graph in
    let found = c.args.at.workspace.now.findings in
    none_behind w (list_of_sound w found c.has_no_faults.ensures) (known_in found) c.has_no_faults.ensures.findings.right (package_of c.args.of.now.unit)
    c.requires.unit.is_package c.args.n c.args.name.now c.in-None.ensures

pub returns-in-Some : goal.returns-in-Some
returns-in-Some c =
    let w = c.args.at.workspace.now.graph in
    let found = c.args.at.workspace.now.findings in
    ok_map c.first_turned.result
    (first_behind w (list_of_sound w found c.has_no_faults.ensures) (known_in found) c.has_no_faults.ensures.findings.right (package_of c.args.of.now.unit)
    c.requires.unit.is_package c.args.n c.args.name.now c.in-Some.turned c.in-Some.ensures) c.first_turned.ensures
