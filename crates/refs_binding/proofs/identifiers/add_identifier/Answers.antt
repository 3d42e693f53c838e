-- The answers to the goals of `identifiers::add_identifier`.
use Rattle.std.proofs.Common.{ap, sym, ◌∙◌}
use Rattle.go_scope.specs.Bindings.{is_implied}
use Rattle.types_declared.specs.PackageView.{package_of}
use Rattle.refs_binding.proofs.Tokens.{no_identifier, an_identifier}
use Rattle.refs_binding.proofs.identifiers.add_identifier.Goals as goal

pub returns-then-is_implied : goal.returns-then-is_implied
returns-then-is_implied c =
    no_identifier (package_of c.args.unit) c.args.u c.args.found.now.items
    (ap is_implied (sym c.role.ensures) ∙ sym c.is_implied.ensures ∙ c.if-is_implied.true)

pub returns : goal.returns
returns c =
    an_identifier (package_of c.args.unit) c.args.u c.place.result c.args.found.now.items c.add_place.new.found.items c.add_place.result c.requires
    (ap is_implied (sym c.role.ensures) ∙ sym c.is_implied.ensures ∙ c.if-is_implied.false) c.place.ensures c.add_place.ensures
