-- Each package has a file.
use Rattle.std.proofs.Common.{◌≡◌, ◌==◌, ℕ, List, Some, true, sym, ◌∙◌}
use Rattle.std.specs.Cmp.Lexicographic.{pointwise, bytes_decides}
use Rattle.std.specs.FinMap.{contains_key-keys, entries, get}
use Rattle.std.proofs.lemmas.Bool.{and_parts}
use Rattle.std.specs.List.{Contains}
use Rattle.base_files.specs.Packages.{folders, is_go, package_files, package_paths}
use Rattle.base_files.specs.Path.{folder}
use Rattle.base_files.specs.Workspace.{Workspace}
use Rattle.workspace_graph.specs.Changed.{has_some}
use Rattle.workspace_graph.proofs.ChangedFiles.{file_of, of_package}
use Rattle.workspace_graph.proofs.FoundFolders.{first_of, folder_found}
use Rattle.workspace_graph.proofs.PackagePaths.{has_folder}
use Rattle.workspace_graph.proofs.StayingPackages.{any_of}

pub package_file : (v : Workspace) (p : List ℕ) → Contains (package_paths v) p →
    (e : List ℕ × List ℕ) × (is_go e.0 ≡ true) × (folder e.0 ≡ p) × (get v e.0 ≡ Some e.1)
package_file v p has =
    let found : has_some (package_files v p) ≡ true =
    sym (folder_found p (entries v)) ∙ sym (has_folder v p) ∙ contains_key-keys (folders v) p ∙ any_of p (package_paths v) has in
    let e = first_of (package_files v p) found in
    let parts = and_parts (is_go e.0.0) (pointwise ◌==◌ (folder e.0.0) p) (of_package v p e.0 e.1) in
    (e.0, parts.0, (bytes_decides (folder e.0.0) p).0 parts.1, file_of v p e.0 e.1)
