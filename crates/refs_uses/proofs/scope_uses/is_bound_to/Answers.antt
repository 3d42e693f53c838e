-- The answers to the goals of `scope_uses::is_bound_to`.
use Rattle.std.proofs.Common.{◌≡◌, false}
use Rattle.types_declared.specs.PackageView.{package_of}
use Rattle.refs_binding.proofs.Bound.{found_is, bound_named, bound_within}
use Rattle.refs_uses.proofs.scope_uses.is_bound_to.Goals as goal

pub returns-then-has_name_of : goal.returns-then-has_name_of
returns-then-has_name_of c =
    let p = package_of c.args.unit in
    let same = found_is p.layout p.names c.args.u c.args.d c.binding.result
    (λ a b x y. c.bindings_are_unique.ensures p.layout c.is_well_formed.ensures p.names c.args.u a b x y) c.binding.ensures in
    ((λ t. same.0 (c.is_number.ensures.0 t)), (λ b. c.is_number.ensures.1 (same.1 b)))

pub returns-else-has_name_of : goal.returns-else-has_name_of
returns-else-has_name_of c =
    let p = package_of c.args.unit in (
      (λ t. let no : c.has_name_of.result ≡ false = c.if-has_name_of.false in let z : ⊥ = cc in absurd z),
      (λ b. c.has_name_of.ensures.1 (bound_within c.args.unit.table.now.sites p.names c.args.u c.args.d b, bound_named p.layout p.names c.args.u c.args.d b)),
    )
