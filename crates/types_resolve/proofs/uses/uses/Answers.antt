-- The answers to the goals of `uses::uses`.
use Rattle.types_resolve.proofs.Used.{marked}
use Rattle.std.proofs.Common.{◌≡◌, arith, length, subst}
use Rattle.types_resolve.specs.Scoping.{AreUsed}
use Rattle.types_declared.specs.Laid.{laid_in}
use Rattle.types_resolve.proofs.uses.uses.Goals as goal

pub loop-u-preserved : goal.loop-u-preserved
loop-u-preserved c =
    let p = laid_in c.args.table.now in
    marked p c.loop-u.used.items c.mark.new.used.items c.loop-u.u c.used_by.result
    (λ v d e b b'. c.bindings_are_unique.ensures p.layout c.is_well_formed.ensures p.names v d e b b') c.loop-u.invariant c.used_by.ensures c.mark.ensures

pub returns : goal.returns
returns c =
    let e : c.loop-u.u ≡ length c.args.table.now.sites = omega arith in
    subst (λ n. AreUsed (laid_in c.args.table.now) n c.loop-u.used.items) e c.loop-u.invariant
