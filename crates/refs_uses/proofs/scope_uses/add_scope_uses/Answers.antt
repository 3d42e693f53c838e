-- The answers to the goals of `scope_uses::add_scope_uses`.
use Rattle.go_scope.specs.Bindings.{IsBoundTo}
use Rattle.types_declared.specs.PackageView.{package_of}
use Rattle.refs_binding.specs.Binding.{BindsByScope}
use Rattle.refs_binding.proofs.Adding.{uses_none, uses_as}
use Rattle.refs_uses.proofs.scope_uses.add_scope_uses.Goals as goal

pub returns-in-None : goal.returns-in-None
returns-in-None c = let p = package_of c.args.unit in uses_none p (λ u. BindsByScope p u c.args.declaration.now) c.args.found.now.items c.in-None.ensures

pub returns-in-Some : goal.returns-in-Some
returns-in-Some c =
    let p = package_of c.args.unit in
    uses_as p (λ u. IsBoundTo p.layout p.names u c.in-Some.d) (λ u. BindsByScope p u c.args.declaration.now) c.args.found.now.items
    c.add_all_bound.new.found.items c.add_all_bound.result
    (λ u. (c.in-Some.ensures u).1) (λ u. (c.in-Some.ensures u).0) c.add_all_bound.ensures
