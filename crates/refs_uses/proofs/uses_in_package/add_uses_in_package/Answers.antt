-- The answers to the goals of `uses_in_package::add_uses_in_package`.
use Rattle.go_scope.specs.Named.{name_value}
use Rattle.types_declared.specs.PackageView.{package_of}
use Rattle.refs_binding.proofs.Adding.{bound_in}
use Rattle.refs_uses.proofs.uses_in_package.add_uses_in_package.Goals as goal

pub returns : goal.returns
returns c =
    bound_in (package_of c.args.of.now.unit) c.args.sought.now.declaration.now (name_value c.args.sought.now.name) c.args.found.now.items
    c.add_scope_uses.new.found.items
    c.add_exported_uses.new.found.items c.add_member_uses.new.found.items
    c.add_own_names.new.found.items c.add_own_names.result c.in_ok-add_scope_uses.ensures c.in_ok-add_exported_uses.ensures c.in_ok-add_member_uses.ensures
    c.add_own_names.ensures
