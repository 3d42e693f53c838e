-- The answers to the goals of `qualified::qualified_identifiers`.
use Rattle.std.proofs.Common.{◌≡◌, length, subst, arith}
use Rattle.types_declared.specs.PackageView.{package_of}
use Rattle.types_info.specs.QualifiedIdentifiers.{AreQualifiedBelow}
use Rattle.types_info.proofs.Gathered.{none_passed, one_passed}
use Rattle.types_info.proofs.qualified.qualified_identifiers.Goals as goal

pub loop-u-init : goal.loop-u-init
loop-u-init c = (c.in_ok-lists.ensures.lists, none_passed (package_of c.args.pkg) c.in_ok-lists.lists.all.items c.in_ok-lists.ensures.listed)

pub list_identifier-requires-clause-lists : goal.list_identifier-requires-clause-lists
list_identifier-requires-clause-lists c = c.loop-u.invariant.0

pub loop-u-preserved : goal.loop-u-preserved
loop-u-preserved c =
    let adds = c.in_ok-list_identifier.ensures in
    (adds.lists, one_passed (package_of c.args.pkg) c.loop-u.u c.loop-u.lists c.list_identifier.new.lists c.loop-u.invariant.1 adds)

pub returns : goal.returns
returns c =
    let e : c.loop-u.u ≡ length c.args.pkg.table.now.sites = omega (arith, c.len-u-end.ensures) in
    subst (λ n. AreQualifiedBelow (package_of c.args.pkg) n c.loop-u.lists.all.items) e c.loop-u.invariant.1
