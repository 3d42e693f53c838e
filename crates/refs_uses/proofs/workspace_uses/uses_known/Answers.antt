-- The answers to the goals of `workspace_uses::uses_known`.
use Rattle.types_declared.specs.PackageView.{package_of}
use Rattle.refs_binding.specs.Workspaces.{known_in}
use Rattle.refs_lookup.proofs.Asking.{asked, refused, tells_refusal, tells_uses}
use Rattle.refs_uses.proofs.workspace_uses.uses_known.Goals as goal

pub returns-in-Err : goal.returns-in-Err
returns-in-Err c =
    let w = c.args.at.workspace.now.graph in
    let known = known_in c.args.at.workspace.now.findings in
    let p = package_of c.args.of.now.unit in
    tells_refusal w known c.has_no_faults.ensures.findings.right c.args.path.now c.args.offset c.in-Err.refusal
    (refused w known c.args.path.now c.args.offset p (asked w known c.args.at.number p c.args.path.now c.requires.unit c.requires.folder) c.in-Err.refusal
    c.in-Err.ensures)

pub returns-in_ok-list_uses_from-in-Ok : goal.returns-in_ok-list_uses_from-in-Ok
returns-in_ok-list_uses_from-in-Ok c =
    let w = c.args.at.workspace.now.graph in
    let known = known_in c.args.at.workspace.now.findings in
    let p = package_of c.args.of.now.unit in
    tells_uses w known c.has_no_faults.ensures.findings.right c.args.path.now c.args.offset p
    (asked w known c.args.at.number p c.args.path.now c.requires.unit c.requires.folder) c.in-Ok.declaration c.in_ok-list_uses_from-in-Ok.field-0
    c.in-Ok.ensures
    c.in_ok-list_uses_from-in-Ok.ensures
