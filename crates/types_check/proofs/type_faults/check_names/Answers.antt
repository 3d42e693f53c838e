-- The answers to the goals of `type_faults::check_names`.
use Rattle.std.proofs.Common.{ap}
use Rattle.std.proofs.lemmas.Result.{IfOk-weaker}
use Rattle.go_ast.specs.FileView.{file_view}
use Rattle.types_stmt.specs.View.{checked_of}
use Rattle.go_ast.specs.SourceFile.{source_of}
use Rattle.types_declared.proofs.PathParts.{source_at}
use Rattle.types_declared.specs.PackageView.{package_of}
use Rattle.types_check.proofs.TypeFaultParts.{checked_by}
use Rattle.types_check.proofs.type_faults.check_names.Goals as goal

pub returns : goal.returns
returns c =
    let p = package_of c.args.pkg in
    let x = c.index-files-file.result in
    let at = source_at c.args.pkg.files.now c.args.file x c.requires.in_range c.index-files-file.is in
    IfOk-weaker c.check_file.result _ _
    (λ k h. checked_by p c.args.file x c.file_world-world.result (checked_of k) (file_view c.file-tree.result.now) at
    (c.file_world-world.ensures.world (source_of x) at) (c.file_world-world.ensures.init (source_of x) at)
    (ap file_view c.file-tree.ensures.tree) h)
    c.check_file.ensures
