-- The answers to the goals of `faults::faults_found`.
use Rattle.std.proofs.Common.{subst}
use Rattle.types_declared.specs.Listing.{AddsFaults}
use Rattle.types_declared.proofs.Listings.{lists_from}
use Rattle.types_members.specs.MemberFaults.{IsRepeatedField, IsRepeatedMethod, IsRecursive, IsMemberFault}
use Rattle.types_declared.specs.PackageView.{package_of}
use Rattle.types_members.proofs.Displacing.{three_added}
use Rattle.types_members.proofs.faults.faults_found.Goals as goal

pub returns : goal.returns
returns c =
    let p = package_of c.args.pkg in
    lists_from c.add_recursive.new.found.items (IsMemberFault p)
    (three_added (IsRepeatedField p) (IsRepeatedMethod p) (IsRecursive p) c.add_fields.new.found.items c.add_methods.new.found.items
    c.add_recursive.new.found.items
    (subst (λ z. AddsFaults z c.add_fields.new.found.items (IsRepeatedField p)) c.new-found.ensures.items c.in_ok-add_fields.ensures)
    c.in_ok-add_methods.ensures
    c.in_ok-add_recursive.ensures)
