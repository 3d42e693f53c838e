-- The answers to the goals of `workspace_uses::add_uses_from`.
use Rattle.std.proofs.Common.{sym, subst}
use Rattle.refs_binding.specs.Workspaces.{known_in, IsExportedUnder}
use Rattle.refs_uses.proofs.workspace_uses.add_uses_from.Goals as goal

pub add_named-requires-clause-name : goal.add_named-requires-clause-name
add_named-requires-clause-name c =
    subst (IsExportedUnder c.args.read.workspace.now.graph (known_in c.args.read.workspace.now.findings) c.args.declaration.now) (sym c.bytes.ensures)
    c.in_ok-name.ensures
