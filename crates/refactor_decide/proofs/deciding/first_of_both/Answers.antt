-- The answers to the goals of `deciding::first_of_both`.
use Rattle.types_declared.specs.PackageView.{package_of}
use Rattle.refs_binding.specs.Workspaces.{known_in}
use Rattle.refs_binding.proofs.Units.{list_of_sound}
use Rattle.refactor_decide.proofs.FirstOwn.{own_first}
use Rattle.refactor_decide.proofs.deciding.first_of_both.Goals as goal

pub returns : goal.returns
returns c =
    let w = c.args.at.workspace.now.graph in
    let found = c.args.at.workspace.now.findings in
    record {
      own = c.in_ok-own.own;
      behind = c.in_ok-behind.behind;
      first_own = own_first w (list_of_sound w found c.has_no_faults.ensures) (known_in found) c.has_no_faults.ensures.findings.right
          (package_of c.args.of.now.unit) c.requires.unit.is_package c.args.n c.args.name.now c.requires.can.declares c.in_ok-own.own c.in_ok-own.ensures;
      first_behind = c.in_ok-behind.ensures;
      is_told = c.earlier.ensures;
    }
