-- The answers to the goals of `objects::laid`.
use Rattle.std.proofs.Common.{subst}
use Rattle.std.specs.Prelude.{map}
use Rattle.std.proofs.lemmas.Result.{IfOk-weaker}
use Rattle.go_ast.specs.SourceFile.{source_of}
use Rattle.go_scope.specs.Packages.{scoped}
use Rattle.types_declared.specs.PackageNames.{IsLaidOver}
use Rattle.types_declared.specs.ExportTablesView.{name_in}
use Rattle.build_object.proofs.objects.laid.Goals as goal

pub returns : goal.returns
returns c =
    let files = map source_of c.args.files.now in
    let names = name_in c.args.export_table.now in
    IfOk-weaker c.lay_names.result (IsLaidOver files names c.in_ok-plain.plain) (IsLaidOver files names (scoped c.args.files.now))
    (λ table h. subst (λ plain. IsLaidOver files names plain table) c.in_ok-plain.ensures h) c.lay_names.ensures
