-- The table is laid over by what the package sees.
use Rattle.std.specs.Prelude.{map}
use Rattle.std.proofs.lemmas.Result.{IfOk-weaker}
use Rattle.go_ast.specs.SourceFile.{source_of}
use Rattle.go_scope.specs.Packages.{scoped}
use Rattle.types_declared.specs.PackageNames.{IsLaidOver}
use Rattle.types_declared.specs.ExportTablesView.{name_in}
use Rattle.refs_binding.specs.Packages.{IsTableAs}
use Rattle.refs_binding.specs.Workspaces.{known_in}
use Rattle.refs_binding.proofs.Units.{table_at}
use Rattle.refs_binding.proofs.packages.read_table.Goals as goal

pub returns : goal.returns
returns c =
    let w = c.args.workspace.now.graph in
    let known = known_in c.args.workspace.now.findings in
    let files = c.trees-files.result.now in
    let seen = c.args.seen.now in
    IfOk-weaker c.laid_table.result (λ laid. IsLaidOver (map source_of files) (name_in seen) (scoped files) laid)
    (λ laid. IsTableAs w known c.args.number laid seen)
    (λ laid is. table_at w known c.args.number files seen laid c.trees-files.ensures c.requires.seen is) c.laid_table.ensures
