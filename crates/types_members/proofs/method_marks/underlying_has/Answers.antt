-- The answers to the goals of `method_marks::underlying_has`.
use Rattle.types_declared.specs.PackageView.{package_of}
use Rattle.types_members.proofs.FieldsHad.{underlying_had}
use Rattle.types_members.proofs.method_marks.underlying_has.Goals as goal

pub returns-in-Struct : goal.returns-in-Struct
returns-in-Struct c = underlying_had (package_of c.args.pkg) c.args.underlying.now c.in-Struct.symbol c.args.name.now c.struct_has.result c.in-Struct.is
    c.struct_has.ensures
