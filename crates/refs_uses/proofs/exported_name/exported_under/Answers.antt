-- The answers to the goals of `exported_name::exported_under`.
use Rattle.std.proofs.Common.{sym, subst}
use Rattle.std.specs.Prelude.{IfOk, option_map}
use Rattle.refs_binding.specs.Workspaces.{known_in, name_bytes, IsExportedUnder}
use Rattle.refs_uses.proofs.exported_name.exported_under.Goals as goal

pub returns-in-Declared : goal.returns-in-Declared
returns-in-Declared c =
    subst (λ d. IfOk c.declared_name.result
    (λ name. IsExportedUnder c.args.workspace.now.graph (known_in c.args.workspace.now.findings) d (option_map name_bytes name)))
    (sym c.in-Declared.is) c.declared_name.ensures
