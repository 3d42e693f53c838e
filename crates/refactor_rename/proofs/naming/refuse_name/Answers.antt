-- The answers to the goals of `naming::refuse_name`.
use Rattle.types_declared.specs.PackageView.{package_of}
use Rattle.refs_binding.specs.Workspaces.{known_in}
use Rattle.refactor_rename.proofs.Refusing.{refused_at_home}
use Rattle.refactor_rename.proofs.naming.refuse_name.Goals as goal

pub refuse_in_unit-requires : goal.refuse_in_unit-requires
refuse_in_unit-requires c = c.requires.indexed.index

pub returns : goal.returns
returns c =
    refused_at_home c.args.at.workspace.now.graph (known_in c.args.at.workspace.now.findings) c.args.at.number (package_of c.args.of.now.unit) c.requires.unit
    c.args.declaration.now c.requires.home c.args.name.now c.refuse_in_unit.result c.refuse_in_unit.ensures
