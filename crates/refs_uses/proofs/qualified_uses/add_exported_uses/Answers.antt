-- The answers to the goals of `qualified_uses::add_exported_uses`.
use Rattle.std.proofs.Common.{◌≡◌, sym, subst}
use Rattle.std.specs.Prelude.{OnOk}
use Rattle.go_scope.specs.Named.{name_value}
use Rattle.types_declared.specs.PackageView.{package_of}
use Rattle.refs_binding.specs.declared.declaration.Declaration.TheVariants.{Declared}
use Rattle.types_info.specs.QualifiedIdentifiers.{IsQualifiedByPath}
use Rattle.refs_binding.specs.Steps.{AddsPlaces, UsesIn, QualifiesAs}
use Rattle.refs_uses.proofs.qualified_uses.add_exported_uses.Goals as goal

pub returns-in-Declared : goal.returns-in-Declared
returns-in-Declared c =
    let p = package_of c.args.unit in
    let a = c.args.found.now.items in
    let b = c.add_package_uses.new.found.items in
    let r = c.add_package_uses.result in
    subst (λ d. OnOk r (AddsPlaces a b (UsesIn p (QualifiesAs p d (name_value c.args.name))))) (sym c.in-Declared.is)
    (subst (λ o. OnOk r (AddsPlaces a b (UsesIn p (QualifiesAs p (Declared c.in-Declared.path c.in-Declared.field-1) (name_value o))))) (sym c.in-Some.is)
    (subst (λ q. OnOk r (AddsPlaces a b (UsesIn p (λ u. IsQualifiedByPath p u q × (p.names u ≡ c.in-Some.name.now))))) c.path.ensures
    c.add_package_uses.ensures))
