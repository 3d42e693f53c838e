-- The answers to the goals of `workspace_uses::list_uses`.
use Rattle.std.proofs.Common.{sym, subst}
use Rattle.refs_binding.specs.Workspaces.{known_in, IsExportedUnder}
use Rattle.refs_uses.proofs.workspace_uses.list_uses.Goals as goal

pub list_everywhere-requires : goal.list_everywhere-requires
list_everywhere-requires c =
    subst (IsExportedUnder c.args.workspace.now.graph (known_in c.args.workspace.now.findings) c.args.declaration.now) (sym c.bytes.ensures)
    c.in_ok-name.ensures
