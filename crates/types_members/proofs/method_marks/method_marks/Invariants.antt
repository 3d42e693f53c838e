-- The invariants of the loops of `method_marks::method_marks`.
use Rattle.types_members.specs.MemberNames.{is_noted, AreNamesBelow}
use Rattle.types_members.specs.MembersView.{CountsAsMethod}
use Rattle.types_declared.specs.PackageView.{package_of}
use Rattle.types_members.proofs.Marking.{MarksBelow}
use Rattle.types_members.proofs.MethodNames.{IsMethodNamed}
use Rattle.types_members.proofs.method_marks.method_marks.Given as goal

abbrev pub invariant-loop-rank : goal.invariant-loop-rank
invariant-loop-rank l = record {
  names : AreNamesBelow (IsMethodNamed (package_of l.pkg)) l.rank (is_noted l.names);
  marks : MarksBelow (CountsAsMethod (package_of l.pkg)) l.marks.items l.rank;
}
