-- The answers to the goals of `exported_name::name_at`.
use Rattle.std.specs.Prelude.{option_map}
use Rattle.std.proofs.lemmas.Result.{IfOk-weaker}
use Rattle.types_declared.specs.PackageView.{package_of}
use Rattle.refs_binding.specs.Steps.{IsExportedBy}
use Rattle.refs_binding.specs.Workspaces.{known_in, name_bytes, IsExportedName}
use Rattle.refs_binding.proofs.PackageReaders.{package_read}
use Rattle.refs_uses.proofs.exported_name.name_at.Goals as goal

pub returns : goal.returns
returns c =
    let at = c.args.at in
    let p = package_of c.unit.result in
    let is = package_read at c.in_ok-reader.reader p c.in_ok-reader.ensures.at c.unit.ensures in
    IfOk-weaker c.own_name.result (λ name. IsExportedBy p c.args.d (option_map name_bytes name))
    (λ name. IsExportedName at.workspace.now.graph (known_in at.workspace.now.findings) at.number c.args.d (option_map name_bytes name))
    (λ name h. (p, (is, h))) c.own_name.ensures
