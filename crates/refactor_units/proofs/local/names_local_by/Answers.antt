-- The identifier is bound to a local declaration exactly where the declaration that is found is one of the package.
use Rattle.std.proofs.Common.{◌≡◌, rules}
use Rattle.base_files.specs.declared.refusal.Refusal.TheVariants.{Memory}
use Rattle.types_declared.specs.PackageView.{package_of}
use Rattle.refs_binding.specs.Workspaces.{known_in}
use Rattle.refactor_units.proofs.Missed.{local_found, local_missed}
use Rattle.refactor_units.proofs.local.names_local_by.Goals as goal

pub returns-in-Err : goal.returns-in-Err
returns-in-Err c =
    let at = c.args.at in
    let other : c.in-Err.field-0 ≡ Memory → ⊥ = search rules in
    local_missed at.workspace.now.graph (known_in at.workspace.now.findings) c.has_no_faults.ensures.findings.right c.args.path.now c.args.offset
    at.number (package_of c.known_of-of.result.unit) c.known_of-of.ensures.unit c.requires.folder c.in-Err.field-0 other c.in-Err.ensures

pub returns : goal.returns
returns c =
    let at = c.args.at in
    local_found at.workspace.now.graph (known_in at.workspace.now.findings) c.has_no_faults.ensures.findings.right c.args.path.now c.args.offset
    at.number (package_of c.known_of-of.result.unit) c.known_of-of.ensures.unit c.requires.folder c.in-Ok.declaration c.is_local.result c.in-Ok.ensures
    c.is_local.ensures
