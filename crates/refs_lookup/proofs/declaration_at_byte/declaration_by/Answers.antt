-- The answers to the goals of `declaration_at_byte::declaration_by`.
use Rattle.types_declared.specs.PackageView.{package_of}
use Rattle.refs_binding.specs.Workspaces.{known_in}
use Rattle.refs_lookup.proofs.Asking.{in_package}
use Rattle.refs_lookup.proofs.declaration_at_byte.declaration_by.Goals as goal

pub returns : goal.returns
returns c =
    in_package c.args.at.workspace.now.graph (known_in c.args.at.workspace.now.findings) c.args.at.number c.args.file.now c.args.offset
    (package_of c.known_of-of.result.unit)
    c.known_of-of.ensures.unit
    c.declaration_in_package.result c.declaration_in_package.ensures
