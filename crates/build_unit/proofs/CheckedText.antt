-- A package that is checked, of which each file has a tree, and what is found where its object is printed.
use Rattle.std.proofs.Common.{ℕ, ◌≡◌, List, [], sym, subst, ◌∙◌, MatchOption}
use Rattle.std.specs.Prelude.{Option, Some, None, slice_get}
use Rattle.std.proofs.lemmas.Option.{same_Some}
use Rattle.base_files.specs.Workspace.{Workspace}
use Rattle.base_files.specs.Packages.{package_paths, package_files}
use Rattle.workspace_graph.specs.declared.package.ParsedPackage.{ParsedPackage as Folder}
use Rattle.workspace_graph.specs.Graphs.{IsPackage}
use Rattle.workspace_graph.specs.Parsed.{AreParsed}
use Rattle.types_declared.specs.Package.{Package}
use Rattle.types_expr.specs.declared.exports.ExportData.{ExportData as FoundExportData}
use Rattle.types_declared.specs.ExportTablesView.{export_data_of}
use Rattle.types_check.specs.Exports.{IsExportData}
use Rattle.build_object.specs.ObjectView.{AreObjectDefinitions}
use Rattle.build_unit.specs.Compiling.{found_definitions}

-- its files
pub parsed_all : (w : Workspace) (n : ℕ) (p : List ℕ) (files : Folder) → slice_get (package_paths w) n ≡ Some p → IsPackage w n files →
    files.faulty.items ≡ [] → AreParsed (package_files w p) files.trees.items []
parsed_all w n p files at is read =
    let folder : files.path.items ≡ p = same_Some files.path.items p (sym is.path ∙ at) in
    subst (λ fs. AreParsed (package_files w p) files.trees.items fs) read
    (subst (λ q. AreParsed (package_files w q) files.trees.items files.faulty.items) folder is.files)

-- the definitions of the interface that was found, where no fault was
pub own_found : {X : Type 0} (p : Package) (faults : List X) (o : Option FoundExportData) → faults ≡ [] →
    MatchOption o (faults ≡ [] → ⊥) (λ i. (faults ≡ []) × IsExportData p (export_data_of p.path i)) → AreObjectDefinitions p (found_definitions o)
own_found p faults None none h = absurd (h none)
own_found p faults (Some i) none h = record { own = λ rank d at. h.1.definitions rank d at; beyond = λ rank past. h.1.beyond rank past }
