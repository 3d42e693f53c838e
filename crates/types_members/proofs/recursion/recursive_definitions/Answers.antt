-- The answers to the goals of `recursion::recursive_definitions`.
use Rattle.std.proofs.Common.{sym, subst}
use Rattle.types_declared.specs.PackageView.{package_of}
use Rattle.types_declared.specs.Reachability.{AreLinksInRange}
use Rattle.types_members.specs.Recursion.{AreContained}
use Rattle.types_members.proofs.Holding.{held_linked, are_recursive}
use Rattle.types_members.proofs.recursion.recursive_definitions.Goals as goal

pub cycles-requires : goal.cycles-requires
cycles-requires c = subst AreLinksInRange (sym c.deref.ensures.value) (held_linked (package_of c.args.pkg) c.in_ok-links.links.items c.in_ok-links.ensures)

pub returns : goal.returns
returns c =
    are_recursive (package_of c.args.pkg) c.deref.result.now c.in_ok-marks.marks.items
    (subst (AreContained (package_of c.args.pkg)) (sym c.deref.ensures.value) c.in_ok-links.ensures) c.in_ok-marks.ensures.size
    c.in_ok-marks.ensures.marked
