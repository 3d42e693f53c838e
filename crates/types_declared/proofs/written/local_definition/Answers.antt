-- The answers to the goals of `written::local_definition`.
use Rattle.types_declared.specs.PackageView.{package_of}
use Rattle.types_declared.proofs.WrittenTypes.{mentions_nothing, mentioned_by}
use Rattle.types_declared.proofs.written.local_definition.Goals as goal

pub returns-in-None : goal.returns-in-None
returns-in-None c = mentions_nothing (package_of c.args.pkg) c.args.file c.args.name c.in-None.ensures.bound

pub returns-in-Some : goal.returns-in-Some
returns-in-Some c = mentioned_by (package_of c.args.pkg) c.args.file c.args.name c.in-Some.d c.definition.result c.in-Some.ensures.bound
    c.in-Some.ensures.only c.definition.ensures
