-- The answers to the goals of `faults::member_faults`.
use Rattle.types_declared.proofs.Stages.{same_listed}
use Rattle.types_members.specs.MemberFaults.{IsMemberFault}
use Rattle.types_declared.specs.PackageView.{package_of}
use Rattle.types_members.proofs.faults.member_faults.Goals as goal

pub returns-clause-listed : goal.returns-clause-listed
returns-clause-listed c = same_listed (IsMemberFault (package_of c.args.pkg)) c.in_ok-found.found.items c.sort.new.found.items c.in_ok-found.ensures
    c.sort.ensures.same
