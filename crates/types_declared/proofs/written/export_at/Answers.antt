-- The answers to the goals of `written::export_at`.
use Rattle.types_declared.specs.PackageView.{package_of}
use Rattle.types_declared.proofs.WrittenTypes.{export_by_import}
use Rattle.types_declared.proofs.written.export_at.Goals as goal

pub returns-in-None : goal.returns-in-None
returns-in-None c = λ e h. c.in-None.ensures.bound h.import h.binds

pub returns-in-Some : goal.returns-in-Some
returns-in-Some c =
    export_by_import (package_of c.args.pkg) c.args.file c.args.qualifier c.args.name c.in-Some.d c.export_of_import.result c.in-Some.ensures.bound
    c.in-Some.ensures.only c.export_of_import.ensures
