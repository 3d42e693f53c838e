-- The answers to the goals of `declared::place_in`.
use Rattle.refs_binding.specs.Workspaces.{known_in}
use Rattle.refs_binding.proofs.Units.{list_of_sound}
use Rattle.lsp_requests.proofs.Finding.{place_told}
use Rattle.lsp_requests.proofs.Refusing.{declaration_unfound}
use Rattle.lsp_requests.proofs.declared.place_in.Goals as goal

pub returns-in-Err : goal.returns-in-Err
returns-in-Err c =
    let w = c.args.workspace.now.graph in
    let found = c.args.workspace.now.findings in
    declaration_unfound w (known_in found) c.has_no_faults.ensures.findings.right (list_of_sound w found c.has_no_faults.ensures) c.args.at.now.path
    c.args.at.now.offset c.in-Err.refusal c.in-Err.ensures

pub returns-in_ok-declared_place-in-Ok : goal.returns-in_ok-declared_place-in-Ok
returns-in_ok-declared_place-in-Ok c =
    let w = c.args.workspace.now.graph in
    let found = c.args.workspace.now.findings in
    place_told w (known_in found) c.has_no_faults.ensures.findings.right (list_of_sound w found c.has_no_faults.ensures) c.args.at.now.path
    c.args.at.now.offset c.in-Ok.declaration c.in-Ok.ensures c.in_ok-declared_place-in-Ok.field-0 c.in_ok-declared_place-in-Ok.ensures
