-- The package is made of the table and the export data at its number.
use Rattle.std.proofs.Common.{◌≡◌, ◌<◌, List, length, ap, sym, subst, refl, ◌∙◌}
use Rattle.std.specs.Prelude.{map, slice_get, slice_index_or, Some}
use Rattle.std.proofs.lemmas.Option.{slice_get_read, slice_get-get_or}
use Rattle.base_files.specs.Packages.{package_paths}
use Rattle.go_ast.specs.SourceFile.{source_of, FileParts}
use Rattle.types_declared.specs.ExportTablesView.{export_data_in}
use Rattle.types_info.proofs.MeaningLists.{slice_get_some}
use Rattle.types_info.specs.PackageOf.{package_in}
use Rattle.refs_binding.specs.Workspaces.{known_in, IsPackageAt}
use Rattle.refs_binding.proofs.packages.Packages.unit.Goals as goal

pub returns : goal.returns
returns c =
    let self = c.args.self.now in
    let w = self.workspace.now.graph in
    let known = known_in self.workspace.now.findings in
    let n = c.args.number in
    let read = c.requires.read in
    let path = c.path_of-path.result.now in
    let table = c.index-table.result.now in
    let seen = slice_index_or self.seen.now n c.index-self-number.result in
    let has_table : n < length self.tables.items = subst (λ m. n < m) (sym read.tables.size) c.requires.in_range in
    let has_seen : n < length self.seen.now = subst (λ m. n < m) (sym read.seen.size) c.requires.in_range in
    let at_table : slice_get self.tables.items n ≡ Some table =
    slice_get_read self.tables.items (length self.tables.items) n table refl has_table c.index-table.ensures in
    let at_seen : slice_get self.seen.now n ≡ Some seen = slice_get-get_or self.seen.now n c.index-self-number.result has_seen in
    let x = slice_get_some (package_paths w) n c.requires.in_range in
    let here = read.tables.each n table at_table seen at_seen path (x.1 ∙ ap Some (sym (c.path_of-path.ensures x.0 x.1))) in
    subst (λ (fs : List FileParts). IsPackageAt w known n (package_in path (map source_of fs) table (export_data_in seen))) (sym c.files.ensures) here
