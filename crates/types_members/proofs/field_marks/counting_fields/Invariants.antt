-- The invariants of the loops of `field_marks::counting_fields`.
use Rattle.types_members.specs.FieldsView.{IsFieldNamed}
use Rattle.types_members.specs.MemberNames.{is_noted, AreNamesBelow}
use Rattle.types_members.proofs.Noting.{IsFirstNamed}
use Rattle.types_declared.specs.PackageView.{package_of}
use Rattle.types_members.proofs.Marking.{MarksBelow}
use Rattle.types_members.proofs.field_marks.counting_fields.Given as goal

abbrev pub invariant-loop-field : goal.invariant-loop-field
invariant-loop-field l = record {
  names : AreNamesBelow (IsFieldNamed (package_of l.pkg)) l.field-index (is_noted l.names);
  marks : MarksBelow (IsFirstNamed (IsFieldNamed (package_of l.pkg))) l.marks.items l.field-index;
}
