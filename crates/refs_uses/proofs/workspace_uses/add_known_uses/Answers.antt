-- The answers to the goals of `workspace_uses::add_known_uses`.
use Rattle.go_scope.specs.Named.{name_value}
use Rattle.types_declared.specs.PackageView.{package_of}
use Rattle.refs_binding.specs.Steps.{UsesIn, BindsIn}
use Rattle.refs_binding.specs.Workspaces.{known_in, IsUseAt}
use Rattle.refs_binding.proofs.Adding.{call_adds}
use Rattle.refs_binding.proofs.Exporting.{use_from}
use Rattle.refs_uses.proofs.workspace_uses.add_known_uses.Goals as goal

pub returns : goal.returns
returns c =
    let w = c.args.at.workspace.now.graph in
    let known = known_in c.args.at.workspace.now.findings in
    let p = package_of c.args.of.now.unit in
    let d = c.args.sought.now.declaration.now in
    let name = name_value c.args.sought.now.name in
    let is = c.requires.unit in
    call_adds c.args.spots.now.items c.add_uses_in_package.new.found.items (UsesIn p (BindsIn p d name)) (IsUseAt w known d name c.args.at.number)
    c.add_uses_in_package.result (λ place q. record { used_in = p; is_package = is; is_use = q })
    (λ place q. use_from w known d name c.args.at.number p is place q) c.add_uses_in_package.ensures
