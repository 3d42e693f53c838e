-- The files of a package after a plain rename: their tokens begin where the edits move them, and their imports keep their paths.
use Rattle.std.proofs.Common.{ℕ, ◌≡◌, List, [], map, ap, sym, subst, refl, ◌∙◌}
use Rattle.std.specs.Prelude.{Option, Some, None, option_map, unwrap_or, slice_get}
use Rattle.std.proofs.lemmas.Option.{none-some, same_Some, slice_get-map}
use Rattle.base_files.specs.Packages.{package_files}
use Rattle.base_files.specs.Workspace.{Workspace}
use Rattle.base_files.specs.declared.place.Place.{Place}
use Rattle.base_edits.specs.EditSet.{FileChanges, change_of, edited, path_by}
use Rattle.base_edits.specs.Fits.{path_after, path_by_change}
use Rattle.base_edits.specs.Moved.{edits_by, moved, moved_offset}
use Rattle.base_edits.specs.declared.change.FileChange.{FileChange}
use Rattle.base_edits.specs.declared.edit.Edit.{Edit}
use Rattle.base_edits.proofs.Changes.{change_found}
use Rattle.go_ast.specs.SourceFile.{SourceFile, FileParts, source_of, offset_of}
use Rattle.go_scope.specs.declared.model.Position.{Position}
use Rattle.go_scope.specs.Bindings.{Layout, block_of}
use Rattle.workspace_graph.specs.Parsed.{AreParsed}
use Rattle.go_respelled.specs.Trees.{renamed_file}
use Rattle.go_respelled.proofs.Trees.{offset_moved}
use Rattle.law_tokens.proofs.OwnPaths.{part_at}
use Rattle.types_declared.specs.Files.{HasLiteral}
use Rattle.types_declared.specs.Laid.{literal_of}
use Rattle.types_declared.specs.Package.{Package}
use Rattle.types_declared.specs.Written.{DeclaresImport}
use Rattle.workspace_check.specs.Verdicts.{Verdicts}
use Rattle.workspace_check.proofs.OnePackage.{one_sources}
use Rattle.refs_binding.specs.declared.declaration.Declaration.{Declaration}
use Rattle.refs_binding.specs.DeclaringPlaces.{TokenAt, TokenBegins}
use Rattle.refs_binding.specs.Uses.{IsCheckedPackage}
use Rattle.refs_lookup.proofs.OnePlace.{same_files}
use Rattle.law_renamed_workspaces.specs.Renames.{IsPlainRename}
use Rattle.law_renamed_workspaces.proofs.Literals.{from_string, string_stays, string_was, to_string}
use Rattle.law_renamed_workspaces.proofs.Packages.{new_parts, new_trees}
use Rattle.law_renamed_workspaces.proofs.Replaced as replaced

mapped : {X Y : Type 0} (g : X → Y) (o : Option X) (y : Y) → option_map g o ≡ Some y → (x : X) × ((o ≡ Some x) × (g x ≡ y))
mapped g None y e = absurd (none-some y e)
mapped g (Some x) y e = (x, (refl, same_Some (g x) y e))

module _ (w : Workspace) (before after : Verdicts) (d : Declaration) (name : List ℕ) (s : FileChanges) (h : IsPlainRename w before d name s)
    (p q : Package) (is : IsCheckedPackage w before p) (also : IsCheckedPackage (edited s w) after q) (same : q.path ≡ p.path) where
  abbrev ts : List FileParts
  ts = is.is_checked.files

  abbrev edits : SourceFile → List Edit
  edits f = edits_by (change_of s f.path)

  -- files

  files_after : q.files ≡ map source_of (map (new_parts s) ts)
  files_after =
      same_files (edited s w) after q.path q also.is_checked
      ∙ one_sources (subst (λ path. AreParsed (package_files (edited s w) path) also.is_checked.files []) same also.is_checked.parsed)
      (new_trees w before d name s h p is)

  pub file_after : (k : ℕ) (f : SourceFile) → slice_get p.files k ≡ Some f → slice_get q.files k ≡ Some (renamed_file (edits f) f)
  file_after k f at =
      let t = part_at ts k f (subst (λ fs. slice_get fs k ≡ Some f) (same_files w before p.path p is.is_checked) at) in
      ap (λ fs. slice_get fs k) files_after
      ∙ slice_get-map source_of (map (new_parts s) ts) k
      ∙ ap (option_map source_of) (slice_get-map (new_parts s) ts k ∙ ap (option_map (new_parts s)) t.1.0)
      ∙ ap (λ (x : SourceFile). Some (renamed_file (edits x) x)) t.1.1

  pub record IsFileBefore (k : ℕ) (g : SourceFile) : Type 0 where
    pub old : SourceFile
    pub at : slice_get p.files k ≡ Some old
    pub new : renamed_file (edits old) old ≡ g

  pub file_before : (k : ℕ) (g : SourceFile) → slice_get q.files k ≡ Some g → IsFileBefore k g
  file_before k g at =
      let n = part_at (map (new_parts s) ts) k g (subst (λ fs. slice_get fs k ≡ Some g) files_after at) in
      let t = mapped (new_parts s) (slice_get ts k) n.0 (sym (slice_get-map (new_parts s) ts k) ∙ n.1.0) in
      record {
        old = source_of t.0;
        at = ap (λ fs. slice_get fs k) (same_files w before p.path p is.is_checked) ∙ slice_get-map source_of ts k ∙ ap (option_map source_of) t.1.0;
        new = ap source_of t.1.1 ∙ n.1.1;
      }

  -- tokens

  by_change : (path : List ℕ) (o : Option FileChange) → change_of s path ≡ o → unwrap_or (path_by_change o path) path ≡ path
  by_change path None e = refl
  by_change path (Some c) e =
      ap (λ fate. unwrap_or (path_by fate path) path) (h.rename.edits.edits.only c (change_found s.changed path c e).0).stays

  pub path_stays : (path : List ℕ) → unwrap_or (path_after s path) path ≡ path
  path_stays path = by_change path (change_of s path) refl

  pub token_moves : (at : Position) (place : Place) → TokenAt p at place → TokenAt q at (moved s place)
  token_moves at place begins = by_file (slice_get p.files at.file) refl begins
    where
      by_file : (o : Option SourceFile) → slice_get p.files at.file ≡ o → TokenBegins o at.index place → TokenAt q at (moved s place)
      by_file None e b = absurd b
      by_file (Some f) e b =
          subst (λ o. TokenBegins o at.index (moved s place)) (sym (file_after at.file f e)) (
            b.0 ∙ sym (path_stays place.path),
            offset_moved f (edits f) at.index (replaced.is_file w before d name s h p is at.file f e).is_cut (replaced.are w before d name s h p is at.file f e)
                ∙ ap (λ path. moved_offset (edits_by (change_of s path)) (offset_of f at.index)) b.0
                ∙ ap (moved_offset (edits_by (change_of s place.path))) b.1,
          )

  -- imports

  module _ (layout : q.layout ≡ p.layout) where
    literal_stays : (k n : ℕ) (f : SourceFile) (value : List ℕ) → slice_get p.files k ≡ Some f → HasLiteral f n value →
        HasLiteral (renamed_file (edits f) f) n value
    literal_stays k n f value at l =
        from_string (renamed_file (edits f) f) n value
        (string_stays f (edits f) (replaced.is_file w before d name s h p is k f at) (replaced.are w before d name s h p is k f at) n value
        (to_string f n value l))

    literal_was : (k n : ℕ) (f : SourceFile) (value : List ℕ) → slice_get p.files k ≡ Some f → HasLiteral (renamed_file (edits f) f) n value →
        HasLiteral f n value
    literal_was k n f value at l =
        from_string f n value
        (string_was f (edits f) (replaced.is_file w before d name s h p is k f at) (replaced.are w before d name s h p is k f at) n value
        (to_string (renamed_file (edits f) f) n value l))

    pub imports_stay : (x : ℕ) (path : List ℕ) → DeclaresImport p x path → DeclaresImport q x path
    imports_stay x path i =
        let k = (p.layout.place x).file in
        let f = i.of_path.source in
        let n = (p.layout.place (literal_of p.layout x)).index in
        record {
          is_import = (i.is_import.0, ap (λ l. block_of (l.role x)) layout ∙ i.is_import.1);
          of_path = record {
            source = renamed_file (edits f) f;
            is_file = ap (λ l. slice_get q.files (l.place x).file) layout ∙ file_after k f i.of_path.is_file;
            has_literal = subst (λ (l : Layout). HasLiteral (renamed_file (edits f) f) (l.place (literal_of l x)).index path) (sym layout)
                (literal_stays k n f path i.of_path.is_file i.of_path.has_literal);
          };
        }

    pub imports_were : (x : ℕ) (path : List ℕ) → DeclaresImport q x path → DeclaresImport p x path
    imports_were x path i =
        let k = (p.layout.place x).file in
        let n = (p.layout.place (literal_of p.layout x)).index in
        let g = file_before k i.of_path.source (ap (λ l. slice_get q.files (l.place x).file) (sym layout) ∙ i.of_path.is_file) in
        let literal : HasLiteral i.of_path.source n path =
        subst (λ (l : Layout). HasLiteral i.of_path.source (l.place (literal_of l x)).index path) layout i.of_path.has_literal in
        record {
          is_import = (i.is_import.0, ap (λ l. block_of (l.role x)) (sym layout) ∙ i.is_import.1);
          of_path = record {
            source = g.old;
            is_file = g.at;
            has_literal = literal_was k n g.old path g.at (subst (λ z. HasLiteral z n path) (sym g.new) literal);
          };
        }
