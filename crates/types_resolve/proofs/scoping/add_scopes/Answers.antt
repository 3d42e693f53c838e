-- The answers to the goals of `scoping::add_scopes`.
use Rattle.std.proofs.Common.{◌≡◌, arith, subst, length}
use Rattle.types_declared.specs.Listing.{AddsFaults, IsFaultBelow}
use Rattle.types_declared.proofs.ItemFaults.{below_none, below_next}
use Rattle.types_resolve.specs.Scoping.{IsFaultOfIdentifier}
use Rattle.types_declared.specs.Laid.{laid_in}
use Rattle.types_resolve.proofs.scoping.add_scopes.Goals as goal

pub loop-u-init : goal.loop-u-init
loop-u-init c = below_none (IsFaultOfIdentifier (laid_in c.args.table.now)) c.args.found.now.items

pub loop-u-preserved : goal.loop-u-preserved
loop-u-preserved c =
    below_next (IsFaultOfIdentifier (laid_in c.args.table.now)) c.args.found.now.items c.loop-u.found.items c.add_identifier.new.found.items c.loop-u.u
    c.loop-u.invariant c.in_ok-add_identifier.ensures

pub returns : goal.returns
returns c =
    let e : c.loop-u.u ≡ length c.args.table.now.sites = omega arith in
    subst (λ n. AddsFaults c.args.found.now.items c.loop-u.found.items (IsFaultBelow (IsFaultOfIdentifier (laid_in c.args.table.now)) n)) e c.loop-u.invariant
