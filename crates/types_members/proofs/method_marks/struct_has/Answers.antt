-- The answers to the goals of `method_marks::struct_has`.
use Rattle.std.proofs.lemmas.Bool.{iff_false}
use Rattle.types_members.specs.MemberNames.{is_noted}
use Rattle.types_declared.specs.PackageView.{package_of}
use Rattle.types_members.proofs.FieldsHad.{own_has, other_has}
use Rattle.types_members.proofs.method_marks.struct_has.Goals as goal

pub returns-then-is_own : goal.returns-then-is_own
returns-then-is_own c = own_has (package_of c.args.pkg) c.has.result (is_noted c.args.structs.now) c.args.symbol.now c.args.name.now c.has.ensures
    c.requires (c.is_own.ensures.0 c.if-is_own.true)

pub returns-else-is_own : goal.returns-else-is_own
returns-else-is_own c = other_has (package_of c.args.pkg) c.imported_has.result c.args.symbol.now c.args.name.now
    (iff_false c.is_own.ensures c.if-is_own.false) c.imported_has.ensures
