-- The answers to the goals of `meanings::type_bound`.
use Rattle.types_declared.specs.PackageView.{package_of}
use Rattle.types_info.proofs.DeclaredMeanings.{no_meaning}
use Rattle.types_info.proofs.meanings.type_bound.Goals as goal

pub returns-in-None : goal.returns-in-None
returns-in-None c = no_meaning (package_of c.args.pkg) c.args.d c.requires.level c.requires.no_variable c.requires.no_function c.in-None.ensures
