-- The answers to the goals of `method_marks::note_method`.
use Rattle.types_members.specs.MemberNames.{is_noted}
use Rattle.types_declared.specs.PackageView.{package_of}
use Rattle.types_members.proofs.MethodNames.{counts_if, counts_not}
use Rattle.types_members.proofs.method_marks.note_method.Goals as goal

pub returns-then-is_new : goal.returns-then-is_new
returns-then-is_new c = (
  c.in_ok-is_new.ensures.noted,
  counts_if (package_of c.args.pkg) c.args.method.definition c.args.method.name.now
      (is_noted c.args.names.now c.args.method.definition c.args.method.name.now) c.in_ok-is_new.is_new
      c.has_field.result c.in_ok-is_new.ensures.added c.if-is_new.true
      c.has_field.ensures,
)

pub returns-else-is_new : goal.returns-else-is_new
returns-else-is_new c = (
  c.in_ok-is_new.ensures.noted,
  counts_not (package_of c.args.pkg) c.args.method.definition c.args.method.name.now
      (is_noted c.args.names.now c.args.method.definition c.args.method.name.now) c.in_ok-is_new.is_new
      c.in_ok-is_new.ensures.added c.if-is_new.false,
)
