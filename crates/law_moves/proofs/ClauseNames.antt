-- Each package has its files after a move, and the name in its clauses follows the path.
use Rattle.std.proofs.Common.{ℕ, ◌≡◌, ◌<◌, List, [], ◌∷◌, Some, length, map, ap, sym, subst, refl, ◌∙◌, arith}
use Rattle.std.specs.Prelude.{slice_get, unwrap_or}
use Rattle.base_files.specs.Packages.{package_files}
use Rattle.base_files.specs.Workspace.{Workspace}
use Rattle.base_edits.specs.EditSet.{FileChanges, change_of, edited}
use Rattle.base_edits.specs.Fits.{path_after}
use Rattle.base_edits.specs.Moved.{edits_by, moved as place_moved}
use Rattle.go_ast.specs.SourceFile.{FileParts, SourceFile, source_of}
use Rattle.workspace_graph.specs.Parsed.{AreParsed}
use Rattle.law_tokens.proofs.OwnPaths.{part_at}
use Rattle.law_changed_types.specs.SameBindings.{trees_of, paths_of}
use Rattle.types_declared.specs.Files.{package_name}
use Rattle.types_declared.specs.Package.{Package}
use Rattle.workspace_check.specs.Verdicts.{Verdicts}
use Rattle.workspace_check.proofs.PackageFiles.{package_file, some_tree}
use Rattle.refs_binding.specs.Uses.{IsCheckedPackage}
use Rattle.refs_lookup.proofs.OnePlace.{same_files}
use Rattle.refactor_conflict.specs.ScopedPackages.{IsClauseName, named}
use Rattle.refactor_move.specs.declared.moved.Moved.{Moved}
use Rattle.law_moves.specs.Moves.{IsMove, moved_path}
use Rattle.law_moves.specs.MovedPackages.{AreMovedFiles, PackagesHaveMovedFiles, name_after}
use Rattle.law_moves.specs.Replacements.{replaced_file}
use Rattle.law_moves.proofs.Clauses.{clause_after}
use Rattle.law_moves.proofs.MovedFiles.{m, package_there}
use Rattle.law_moves.proofs.NewFiles.{new_parts, new_trees}
use Rattle.law_moves.proofs.NewLayout.{file_at, moved_paths, plain_layout, plain_size, same_trees, source_at}

module _ (w : Workspace) (known : Verdicts) (from to : List ℕ) (s : FileChanges) (h : IsMove w known from to s) (p : Package)
    (is : IsCheckedPackage w known p) where
  abbrev ts : List FileParts
  ts = is.is_checked.files

  abbrev moved : Moved
  moved = m w known from to s h

  abbrev files : List FileParts
  files = map (new_parts s) ts

  name_by : (us : List FileParts) → ts ≡ us →
      package_name (map source_of (map (new_parts s) us)) ≡ name_after moved p.path (package_name (map source_of us))
  name_by [] e =
      let some = package_file w p.path is.of_workspace in
      let lt : 0 < length ts = some_tree is.is_checked.parsed some.0 some.1 in
      absurd (none (length ts) lt (ap length e))
    where
      none : (n : ℕ) → 0 < n → n ≡ 0 → ⊥
      none n lt e = omega arith
  name_by (t ∷ us) e =
      clause_after w known from to s h p is 0 (source_of t) (source_at w known from to s h p is 0 t (ap (λ l. slice_get l 0) e))
      (unwrap_or (path_after s t.path) t.path)

  pub new_name : package_name (map source_of files) ≡ name_after moved p.path (package_name p.files)
  new_name = name_by ts refl ∙ ap (λ fs. name_after moved p.path (package_name fs)) (sym (same_files w known p.path p is.is_checked))

  -- the path, by the record of the move
  same_path : moved_path from to p.path ≡ moved_path moved.from moved.to p.path
  same_path =
      ap (λ f. moved_path f to p.path) (sym h.edits.is_move.source) ∙ ap (λ t. moved_path moved.from t p.path) (sym h.edits.is_move.target)

  pub parsed : AreParsed (package_files (edited s w) (moved_path from to p.path)) files []
  parsed = new_trees w known from to s h p is

  pub clause : IsClauseName (edited s w) (moved_path from to p.path) (Some (name_after moved p.path (package_name p.files)))
  clause =
      subst (λ n. IsClauseName (edited s w) (moved_path from to p.path) (Some n)) new_name
      (named (package_there w known from to s h p.path is.of_workspace) parsed)

  each : (k : ℕ) (f : SourceFile) → slice_get p.files k ≡ Some f →
      slice_get (map source_of files) k ≡ Some (replaced_file (unwrap_or (path_after s f.path) f.path) (edits_by (change_of s f.path)) f)
  each k f at =
      let t = part_at ts k f (subst (λ fs. slice_get fs k ≡ Some f) (same_files w known p.path p is.is_checked) at) in
      file_at s ts k (Some t.0) t.1.0
      ∙ ap (λ (x : SourceFile). Some (replaced_file (unwrap_or (path_after s x.path) x.path) (edits_by (change_of s x.path)) x)) t.1.1

  pub are_moved : AreMovedFiles w moved s p ts files
  are_moved = record {
    parsed = subst (λ q. AreParsed (package_files (edited s w) q) files []) same_path parsed;
    each = each;
    trees = same_trees s ts ∙ sym (ap trees_of (same_files w known p.path p is.is_checked));
    paths = moved_paths s ts ∙ sym (ap (λ fs. map (λ path. (place_moved s (record { path = path; offset = 0 })).path) (paths_of fs))
        (same_files w known p.path p is.is_checked));
    layout = plain_layout w known from to s h p is;
    size = plain_size w known from to s h p is;
    clause = subst (λ q. IsClauseName (edited s w) q (Some (name_after moved p.path (package_name p.files)))) same_path clause;
  }

pub have_moved_files : PackagesHaveMovedFiles
have_moved_files w known from to s h p is = (map (new_parts s) is.is_checked.files, are_moved w known from to s h p is)
