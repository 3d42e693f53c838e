-- The answers to the goals of `meanings::import_bound`.
use Rattle.types_expr.specs.WorldView.{bound_of}
use Rattle.types_declared.specs.MeaningOf.{import_name}
use Rattle.types_declared.specs.PackageView.{package_of}
use Rattle.types_info.proofs.DeclaredMeanings.{no_import_meaning}
use Rattle.types_info.proofs.meanings.import_bound.Goals as goal

pub returns-in-None : goal.returns-in-None
returns-in-None c = no_import_meaning (package_of c.args.pkg) c.args.d c.args.file c.requires.in_file c.in-None.ensures

pub returns-in-Some : goal.returns-in-Some
unfolding bound_of
returns-in-Some c = import_name c.in-Some.ensures.0
