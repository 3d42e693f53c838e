-- The answers to the goals of `qualifiers::qualifying_path`.
use Rattle.types_declared.specs.PackageView.{package_of}
use Rattle.types_info.proofs.NamesBefore.{path_before}
use Rattle.types_info.proofs.qualifiers.qualifying_path.Goals as goal

pub returns-in-None : goal.returns-in-None
returns-in-None c = c.in-None.ensures.before

pub returns-in-Some : goal.returns-in-Some
returns-in-Some c = path_before (package_of c.args.pkg) c.args.u c.in-Some.d c.path.result c.in-Some.ensures.before c.path.ensures
