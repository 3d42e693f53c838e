-- The answers to the goals of `workspace_uses::name_by_read`.
use Rattle.std.proofs.Common.{sym, subst}
use Rattle.std.specs.Prelude.{IfOk, option_map}
use Rattle.refs_binding.specs.Workspaces.{known_in, name_bytes, IsExportedUnder}
use Rattle.refs_uses.proofs.workspace_uses.name_by_read.Goals as goal

pub returns-in-Declared : goal.returns-in-Declared
returns-in-Declared c =
    subst (λ d. IfOk c.scope_name.result
    (λ name. IsExportedUnder c.args.read.workspace.now.graph (known_in c.args.read.workspace.now.findings) d (option_map name_bytes name)))
    (sym c.in-Declared.is) c.scope_name.ensures
