-- The declaration that was found, or why there is none.
use Rattle.std.proofs.Common.{Global, subst}
use Rattle.types_declared.specs.PackageView.{package_of}
use Rattle.refs_binding.specs.Uses.{HasDeclaration, IsFilePackage}
use Rattle.refs_binding.specs.WorkspaceFindings.{WorkspaceFindings}
use Rattle.refs_binding.specs.Workspaces.{known_in}
use Rattle.refs_lookup.proofs.Asking.{asked, refused}
use Rattle.refactor_plan.specs.Proposals.{proposed_verdicts}
use Rattle.refactor_affected.proofs.AffectedPackages.{marks_found, no_marks}
use Rattle.refactor_affected.proofs.affected.affected_packages.Goals as goal

pub returns-in-Err : goal.returns-in-Err
returns-in-Err c =
    let p = c.args.proposal.now in
    let read = c.args.read.now in
    let v = p.workspace.now.graph in
    let known = proposed_verdicts p in
    let unit = package_of read.of.unit in
    let path = p.path.now in
    let is : IsFilePackage v known path unit =
    subst (λ (x : WorkspaceFindings). IsFilePackage x.graph (known_in x.findings) path unit) c.requires.read.same
    (asked read.at.workspace.now.graph (known_in read.at.workspace.now.findings) read.at.number unit path c.requires.read.is_read.unit c.requires.folder) in
    no_marks v known c.has_no_faults.ensures.findings.right path p.offset Global c.args.graph.now c.in-Err.refusal
    (refused v known path p.offset unit is c.in-Err.refusal c.in-Err.ensures)

pub returns-in-Ok : goal.returns-in-Ok
returns-in-Ok c =
    let p = c.args.proposal.now in
    let read = c.args.read.now in
    let v = p.workspace.now.graph in
    let known = proposed_verdicts p in
    let unit = package_of read.of.unit in
    let path = p.path.now in
    let h = c.in-Ok.ensures in
    let has : HasDeclaration v known path p.offset c.in-Ok.declaration = record {
      asked_in = unit;
      is_asked = subst (λ (x : WorkspaceFindings). IsFilePackage x.graph (known_in x.findings) path unit) c.requires.read.same
          (asked read.at.workspace.now.graph (known_in read.at.workspace.now.findings) read.at.number unit path c.requires.read.is_read.unit
          c.requires.folder);
      number = h.0;
      at = h.1.0;
      bound = h.1.1;
    } in
    marks_found v known c.has_no_faults.ensures.findings.right path p.offset Global c.args.graph.now c.in-Ok.declaration has c.marks_of_homes.result
    c.marks_of_homes.ensures
