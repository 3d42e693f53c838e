-- The answers to the goals of `indexed::unit_of`.
use Rattle.std.proofs.Common.{List, ap, sym, subst, ◌∙◌}
use Rattle.std.specs.Prelude.{map, Some}
use Rattle.base_files.specs.Packages.{package_paths}
use Rattle.go_ast.specs.SourceFile.{source_of, FileParts}
use Rattle.types_declared.specs.ExportTablesView.{export_data_in}
use Rattle.types_info.proofs.MeaningLists.{slice_get_some}
use Rattle.types_info.specs.PackageOf.{package_in}
use Rattle.refs_binding.specs.Workspaces.{known_in, IsPackageAt}
use Rattle.refs_binding.proofs.indexed.unit_of.Goals as goal

pub path_of-path-requires : goal.path_of-path-requires
path_of-path-requires c = c.requires.numbered.in_range

pub returns : goal.returns
returns c =
    let w = c.args.at.workspace.now.graph in
    let known = known_in c.args.at.workspace.now.findings in
    let n = c.args.at.number in
    let path = c.path_of-path.result.now in
    let x = slice_get_some (package_paths w) n c.requires.numbered.in_range in
    subst (λ (fs : List FileParts). IsPackageAt w known n (package_in path (map source_of fs) c.args.table.now (export_data_in c.args.seen.now)))
    (sym c.files-files.ensures) (c.requires.table path (x.1 ∙ ap Some (sym (c.path_of-path.ensures x.0 x.1))))
