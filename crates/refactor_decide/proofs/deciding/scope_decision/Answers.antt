-- The answers to the goals of `deciding::scope_decision`.
use Rattle.types_declared.specs.PackageView.{package_of}
use Rattle.refs_binding.specs.Workspaces.{known_in}
use Rattle.refs_binding.proofs.Units.{list_of_sound}
use Rattle.refactor_decide.proofs.Written.{all_count}
use Rattle.refactor_decide.proofs.deciding.scope_decision.Goals as goal

pub first_of_both-requires-clause-all_count : goal.first_of_both-requires-clause-all_count
first_of_both-requires-clause-all_count c =
    let w = c.args.at.workspace.now.graph in
    let found = c.args.at.workspace.now.findings in
    all_count w (list_of_sound w found c.has_no_faults.ensures) (known_in found) c.has_no_faults.ensures.findings.right (package_of c.args.of.now.unit)
    c.requires.unit.is_package
