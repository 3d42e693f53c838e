-- The answers to the goals of `scoping::add_identifier`.
use Rattle.std.proofs.Common.{◌⊎◌}
use Rattle.types_declared.proofs.Listings.{then_adds}
use Rattle.types_resolve.specs.Scoping.{IsUndeclared, IsRepeated, IsUnused, IsFaultOfIdentifier}
use Rattle.types_declared.specs.Laid.{laid_in}
use Rattle.types_resolve.proofs.scoping.add_identifier.Goals as goal

pub returns : goal.returns
returns c =
    let p = laid_in c.args.table.now in
    let Q = IsRepeated p c.args.u in
    let R = IsUnused p c.args.u in
    then_adds c.args.found.now.items c.add_undeclared.new.found.items c.add_unused.new.found.items (IsUndeclared p c.args.u) (λ f. Q f ⊎ R f)
    (IsFaultOfIdentifier p c.args.u) c.add_unused.result
    c.in_ok-add_undeclared.ensures
    (then_adds c.add_undeclared.new.found.items c.add_repeated.new.found.items c.add_unused.new.found.items Q R (λ f. Q f ⊎ R f) c.add_unused.result
    c.in_ok-add_repeated.ensures c.add_unused.ensures
    (λ f h. h) (λ f h. h))
    (λ f h. h) (λ f h. h)
