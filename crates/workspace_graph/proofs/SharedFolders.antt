-- Packages of one workspace that stand in another one, in place of those in their folders.
use Rattle.std.proofs.Common.{◌≡◌, ℕ, List, true, sym, subst}
use Rattle.std.proofs.lemmas.List.Elements.{Contains-get_or}
use Rattle.std.specs.List.{Contains}
use Rattle.std.specs.List.Sorted.{IsStrictlySortedBy}
use Rattle.base_files.specs.Packages.{package_files, package_paths}
use Rattle.base_files.specs.Workspace.{Workspace, path_cmp}
use Rattle.workspace_graph.specs.ChangedFiles.{ArePackages, CoverChanges}
use Rattle.workspace_graph.specs.Parsed.{AreParsed}
use Rattle.workspace_graph.specs.SameGoFiles.{AreSameIn, DiffersOnlyIn, HasFiles}
use Rattle.workspace_graph.specs.declared.package.ParsedPackage.{ParsedPackage}
use Rattle.workspace_graph.proofs.ChangedFiles.{path_in}
use Rattle.workspace_graph.proofs.PackagePaths.{paths_sorted}
use Rattle.workspace_graph.proofs.SameFiles.{same_in}

module _ (v u w : Workspace) (packages : List ParsedPackage) (are : ArePackages u packages) (other : AreSameIn (package_paths u) u w) where
  -- a package has the same files in both
  same_package : (p : ParsedPackage) → Contains packages p → HasFiles u p → HasFiles w p
  same_package p has files =
      let among : Contains (package_paths u) p.path.items = subst (λ l. Contains l p.path.items) are.paths (path_in packages p has) in
      let same : package_files w p.path.items ≡ package_files u p.path.items =
      same_in u w p.path.items (λ path go e. other path go (subst (Contains (package_paths u)) (sym e) among)) in
      subst (λ es. AreParsed es p.trees.items p.faulty.items) (sym same) files

  pub cover_other : DiffersOnlyIn (package_paths u) v w → CoverChanges v w packages
  cover_other differs = record {
    sorted = subst (IsStrictlySortedBy path_cmp) (sym are.paths) (paths_sorted u);
    differs = subst (λ l. DiffersOnlyIn l v w) (sym are.paths) differs;
    files = λ k d below. same_package _ (Contains-get_or packages k d below) (are.files k d below);
  }
