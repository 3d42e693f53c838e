-- The graph of files, from the packages before and one new package.
use Rattle.std.proofs.Common.{◌≡◌, ℕ, ◌≤◌, true, List, [], ◌∷◌, length, slice_get, sym, ap, subst, ◌∙◌, arith}
use Rattle.std.specs.List.{insert}
use Rattle.std.specs.List.Sorted.{IsStrictlySortedBy}
use Rattle.std.proofs.lemmas.List.{length-map}
use Rattle.base_files.specs.Packages.{package_paths}
use Rattle.base_files.specs.Workspace.{Workspace, path_cmp}
use Rattle.workspace_graph.specs.Changed.{has_file}
use Rattle.workspace_graph.specs.Graphs.{paths_of, IsGraph}
use Rattle.workspace_graph.specs.Growth.{AreRows, HasNewPackage}
use Rattle.workspace_graph.specs.Imports.{LinkTable}
use Rattle.workspace_graph.specs.ChangedFiles.{CoverChanges, ArePackages}
use Rattle.workspace_graph.specs.SameGoFiles.{HasFiles}
use Rattle.workspace_graph.specs.Updated.{AreUpdated, IsPlace}
use Rattle.workspace_graph.specs.declared.package.ParsedPackage.{ParsedPackage}
use Rattle.workspace_graph.proofs.Linked.{graph_is, graph_rows}
use Rattle.workspace_graph.proofs.PackagePaths.{paths_sorted}
use Rattle.workspace_graph.proofs.StayingPackages.{all_at}
use Rattle.workspace_graph.proofs.UpdatedPackages.{updated_files, updated_one, updated_paths}

module _ (v w : Workspace) (old : List ParsedPackage) (links : LinkTable) (one : ParsedPackage) (place : ℕ) (graph : IsGraph v old links)
    (fresh : CoverChanges v w (one ∷ [])) (file : has_file one ≡ true) (stands : IsPlace (package_paths v) one.path.items place) where
  pub place_fits : place ≤ length old
  place_fits =
      let size = length-map old (λ (p : ParsedPackage). p.path.items) in
      let same = ap length graph.paths in
      omega (arith, stands.within, size, same)

  there : ArePackages v old
  there = record { paths = graph.paths; files = all_at (HasFiles v) old graph.each }

  updated : AreUpdated old (one ∷ []) (insert old place one)
  updated = updated_one old one place (subst (IsStrictlySortedBy path_cmp) (sym graph.paths) (paths_sorted v)) fresh.sorted file
      (subst (λ ks. IsPlace ks one.path.items place) (sym graph.paths) stands)

  module _ (packages : List ParsedPackage) (put : packages ≡ insert old place one) where
    grown_paths : paths_of packages ≡ package_paths w
    grown_paths = ap paths_of put ∙ updated_paths v w old (one ∷ []) (insert old place one) there fresh updated

    pub grown_sorted : IsStrictlySortedBy path_cmp (paths_of packages)
    grown_sorted = subst (IsStrictlySortedBy path_cmp) (sym grown_paths) (paths_sorted w)

    pub grown_grows : (g : LinkTable) → g ≡ links → HasNewPackage packages g place
    grown_grows g same = record {
      before = old;
      one = one;
      within = place_fits;
      put = put;
      rows = subst (AreRows old) (sym same) (graph_rows v old links graph);
    }

    pub grown_graph : (g : LinkTable) → AreRows packages g → IsGraph w packages g
    grown_graph g rows = graph_is w packages g grown_paths
        (λ i p at. updated_files v w old (one ∷ []) (insert old place one) there fresh updated i p (ap (λ l. slice_get l i) (sym put) ∙ at)) rows
