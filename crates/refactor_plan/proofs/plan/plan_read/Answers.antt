-- The answers to the goals of `plan::plan_read`.
use Rattle.std.proofs.Common.{subst}
use Rattle.types_declared.specs.PackageView.{package_of}
use Rattle.refs_binding.specs.Uses.{IsFilePackage}
use Rattle.refs_binding.specs.WorkspaceFindings.{WorkspaceFindings}
use Rattle.refs_binding.specs.Workspaces.{known_in}
use Rattle.refs_binding.proofs.Units.{list_of_sound}
use Rattle.refs_lookup.proofs.Asking.{asked, refused}
use Rattle.refactor_plan.specs.Proposals.{proposed_snapshot, proposed_verdicts}
use Rattle.refactor_plan.proofs.Planned.{finds_refused}
use Rattle.refactor_plan.proofs.plan.plan_read.Goals as goal

pub returns-in-Err-clause-planned : goal.returns-in-Err-clause-planned
returns-in-Err-clause-planned c =
    let p = c.args.proposal.now in
    let read = c.args.read.now in
    let w = p.workspace.now.graph in
    let known = proposed_verdicts p in
    let unit = package_of read.of.unit in
    let path = p.path.now in
    let sound = c.has_no_faults.ensures in
    let is : IsFilePackage w known path unit =
    subst (λ (v : WorkspaceFindings). IsFilePackage v.graph (known_in v.findings) path unit) c.requires.read.same
    (asked read.at.workspace.now.graph (known_in read.at.workspace.now.findings) read.at.number unit path c.requires.read.is_read.unit c.requires.folder) in
    finds_refused (proposed_snapshot p) path p.offset c.args.name.now (list_of_sound w p.workspace.now.findings sound) known sound.findings.right
    c.in-Err.refusal
    (refused w known path p.offset unit is c.in-Err.refusal c.in-Err.ensures)

pub plan_home-requires-clause-has : goal.plan_home-requires-clause-has
plan_home-requires-clause-has c =
    let p = c.args.proposal.now in
    let read = c.args.read.now in
    let unit = package_of read.of.unit in
    let path = p.path.now in
    let h = c.in-Ok.ensures in
    record {
      asked_in = unit;
      is_asked = subst (λ (v : WorkspaceFindings). IsFilePackage v.graph (known_in v.findings) path unit) c.requires.read.same
          (asked read.at.workspace.now.graph (known_in read.at.workspace.now.findings) read.at.number unit path c.requires.read.is_read.unit
          c.requires.folder);
      number = h.0;
      at = h.1.0;
      bound = h.1.1;
    }
