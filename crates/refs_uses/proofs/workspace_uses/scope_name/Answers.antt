-- The answers to the goals of `workspace_uses::scope_name`.
use Rattle.std.proofs.Common.{sym}
use Rattle.std.specs.Prelude.{option_map}
use Rattle.std.proofs.lemmas.Result.{IfOk-weaker}
use Rattle.types_declared.specs.PackageView.{package_of}
use Rattle.refs_binding.specs.declared.declaration.Declaration.TheVariants.{Declared}
use Rattle.refs_binding.specs.Steps.{IsExportedBy}
use Rattle.refs_binding.specs.Workspaces.{known_in, name_bytes, IsExportedUnder}
use Rattle.refs_binding.proofs.Exporting.{name_exported}
use Rattle.refs_uses.proofs.workspace_uses.scope_name.Goals as goal

pub returns-then-is_own : goal.returns-then-is_own
returns-then-is_own c =
    let w = c.args.read.workspace.now.graph in
    let known = known_in c.args.read.workspace.now.findings in
    let p = package_of c.args.unit in
    IfOk-weaker c.own_name.result (λ name. IsExportedBy p c.args.d (option_map name_bytes name))
    (λ name. IsExportedUnder w known (Declared c.args.path.now c.args.d) (option_map name_bytes name))
    (λ name h. name_exported w known c.args.path.now c.args.d p c.requires.unit.is_package (sym (c.is_own.ensures.0 c.if-is_own.true))
    (option_map name_bytes name) h) c.own_name.ensures
