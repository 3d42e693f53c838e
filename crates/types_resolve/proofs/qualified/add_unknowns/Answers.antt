-- The answers to the goals of `qualified::add_unknowns`.
use Rattle.std.proofs.Common.{◌≡◌, arith, subst, length, map}
use Rattle.types_declared.specs.Listing.{AddsFaults, IsFaultBelow}
use Rattle.types_declared.proofs.ItemFaults.{below_none, below_next}
use Rattle.go_ast.specs.SourceFile.{source_of}
use Rattle.types_resolve.specs.Scoping.{IsQualifiedFault}
use Rattle.types_declared.specs.Laid.{laid_in}
use Rattle.types_resolve.proofs.qualified.add_unknowns.Goals as goal

pub loop-u-init : goal.loop-u-init
loop-u-init g c = below_none (IsQualifiedFault (map source_of c.args.files.now) (g.E.Exports.exported c.args.exports.now) (laid_in c.args.table.now))
    c.args.found.now.items

pub loop-u-preserved : goal.loop-u-preserved
loop-u-preserved g c =
    below_next (IsQualifiedFault (map source_of c.args.files.now) (g.E.Exports.exported c.args.exports.now) (laid_in c.args.table.now)) c.args.found.now.items
    c.loop-u.found.items c.add_unknown.new.found.items c.loop-u.u
    c.loop-u.invariant c.in_ok-add_unknown.ensures

pub returns : goal.returns
returns g c =
    let e : c.loop-u.u ≡ length c.args.table.now.sites = omega arith in
    subst (λ n. AddsFaults c.args.found.now.items c.loop-u.found.items
    (IsFaultBelow (IsQualifiedFault (map source_of c.args.files.now) (g.E.Exports.exported c.args.exports.now) (laid_in c.args.table.now)) n)) e
    c.loop-u.invariant
