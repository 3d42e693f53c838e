-- The answers to the goals of `own_names::add_own_method`.
use Rattle.std.proofs.Common.{sym, ◌∙◌}
use Rattle.std.proofs.lemmas.Bool.{false≢true}
use Rattle.refs_binding.specs.declared.declaration.Declaration.TheVariants.{Method}
use Rattle.types_declared.specs.PackageView.{package_of}
use Rattle.refs_binding.specs.Binding.{DeclaresMember, IsMethodAt}
use Rattle.refs_binding.proofs.Adding.{uses_none}
use Rattle.refs_binding.proofs.NamedPlaces.{one_method_place, named_added}
use Rattle.refs_uses.proofs.own_names.add_own_method.Goals as goal

pub returns-else-is_own : goal.returns-else-is_own
returns-else-is_own c =
    uses_none (package_of c.args.unit) (λ u. DeclaresMember (package_of c.args.unit) u (Method c.args.symbol.now)) c.args.found.now.items
    (λ u h. false≢true (sym c.if-is_own.false ∙ c.is_own.ensures.1 h.0))

pub returns-in_ok-places : goal.returns-in_ok-places
returns-in_ok-places c =
    let p = package_of c.args.unit in
    named_added (IsMethodAt p) (one_method_place p) p c.args.symbol.now.rank (λ u. DeclaresMember p u (Method c.args.symbol.now))
    (λ u n. (c.is_own.ensures.0 c.if-is_own.true, n)) (λ u h. h.1)
    c.in_ok-places.places.items _ c.deref.ensures.value c.in_ok-places.ensures c.args.found.now.items c.add_named.new.found.items c.add_named.result
    c.add_named.ensures
