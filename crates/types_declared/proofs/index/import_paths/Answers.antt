-- The answers to the goals of `index::import_paths`.
use Rattle.types_declared.specs.PackageView.{package_of}
use Rattle.types_declared.proofs.DeclaredPaths.{next_path}
use Rattle.types_declared.proofs.index.import_paths.Goals as goal

pub loop-d-preserved : goal.loop-d-preserved
loop-d-preserved c =
    next_path (package_of c.args.pkg) c.loop-d.d c.loop-d.paths.items c.push.new.self.items c.in_ok-import_path.field-0 c.in_ok-push.ensures.items
    c.loop-d.invariant c.in_ok-import_path.ensures
