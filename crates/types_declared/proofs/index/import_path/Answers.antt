-- The answers to the goals of `index::import_path`.
use Rattle.std.proofs.lemmas.Result.{IfOk-weaker}
use Rattle.types_declared.specs.PackageView.{package_of}
use Rattle.types_declared.proofs.DeclaredPaths.{path_of_import}
use Rattle.types_declared.proofs.index.import_path.Goals as goal

pub returns-then-is_import : goal.returns-then-is_import
returns-then-is_import c = IfOk-weaker c.path_of.result _ _
    (λ o h. path_of_import (package_of c.args.pkg) c.args.d o (c.is_import.ensures.0 c.if-is_import.true) h) c.path_of.ensures
