-- The answers to the goals of `objects::object`.
use Rattle.std.proofs.Common.{refl}
use Rattle.std.specs.Prelude.{map}
use Rattle.std.proofs.lemmas.Result.{IfOk-weaker}
use Rattle.go_ast.specs.SourceFile.{source_of}
use Rattle.types_info.specs.PackageOf.{package_in, IsPackageOf}
use Rattle.types_declared.specs.ExportTablesView.{name_in, export_data_in}
use Rattle.build_object.proofs.objects.object.Goals as goal

pub laid_text-requires : goal.laid_text-requires
laid_text-requires c =
    let g = c.args.given in
    c.requires (package_in g.path.now (map source_of g.files.now) c.in_ok-table.table (export_data_in c.args.export_table.now))
    (record { laid = c.in_ok-table.table; is_laid = c.in_ok-table.ensures; is_package = refl })

pub returns : goal.returns
returns c =
    let g = c.args.given in
    let own = package_in g.path.now (map source_of g.files.now) c.in_ok-table.table (export_data_in c.args.export_table.now) in
    let mine : IsPackageOf g.path.now g.files.now (name_in c.args.export_table.now) (export_data_in c.args.export_table.now) own =
    record { laid = c.in_ok-table.table; is_laid = c.in_ok-table.ensures; is_package = refl } in
    IfOk-weaker c.laid_text.result _ _ (λ text h. (own, mine, h)) c.laid_text.ensures
