-- The package after a plain rename: the old one with its layout and trees, with other names at the replaced tokens.
use Rattle.std.proofs.Common.{ℕ, zero, suc, ◌≡◌, ◌+◌, ◌<◌, inl, inr, true, false, List, [], ◌∷◌, ◌++◌, Option, Some, None, length, map, ap, sym, subst, refl}
use Rattle.std.proofs.Common.{◌∙◌, arith}
use Rattle.std.specs.Prelude.{Contains, slice_get, option_map}
use Rattle.std.specs.List.{AllByRecursion}
use Rattle.std.proofs.Math.Path.{ap₂}
use Rattle.std.proofs.lemmas.Bool.{true≢false}
use Rattle.std.proofs.lemmas.Option.{none-some, same_Some, slice_get-map}
use Rattle.base_files.specs.Workspace.{Workspace}
use Rattle.base_files.specs.declared.place.Place.{Place}
use Rattle.base_edits.specs.EditSet.{FileChanges, change_of, edited}
use Rattle.base_edits.specs.Moved.{edits_by}
use Rattle.base_edits.specs.declared.edit.Edit.{Edit}
use Rattle.base_edits.specs.RevisionsOfEdits.{revision_of, new_name_at}
use Rattle.go_scanner.specs.declared.piece.Piece.{Piece}
use Rattle.go_scanner.specs.CutText.{tokens_in}
use Rattle.go_ast.specs.FileView.{file_view}
use Rattle.go_ast.specs.SourceFile.{SourceFile, FileParts, IsSourceFile, source_of, offset_of, spelling_of}
use Rattle.go_scope.specs.declared.model.Position.{Position}
use Rattle.go_scope.specs.Bindings.{Layout, is_implied}
use Rattle.go_scope.specs.FileSites.{SpelledFile, files_sites, package_sites, universe, universe_site}
use Rattle.go_scope.specs.Named.{is_unnamed_import, named_sites, with_names}
use Rattle.go_scope.specs.Packages.{ScopedPackage, scoped, layout_in}
use Rattle.go_scope.specs.Site.{Site, or_blank, sites_layout}
use Rattle.go_scope.specs.SpelledFiles.{spelled_file}
use Rattle.law_rename.specs.Respelled.{Spelling, respelled, respelled_files, KeepsRoles, KeepAllRoles}
use Rattle.go_respelled.specs.Renamings.{AreNameEdits, moved_piece}
use Rattle.go_respelled.specs.Trees.{renamed_file}
use Rattle.law_rename.proofs.Laid.{layout_stays, package_respelled}
use Rattle.go_respelled.proofs.MovedTokens.{tokens_moved}
use Rattle.law_tokens.proofs.OwnPaths.{part_at, package_sources}
use Rattle.law_changed_types.specs.SameBindings.{trees_of, paths_of}
use Rattle.types_declared.specs.Files.{HasLiteral}
use Rattle.types_declared.specs.Laid.{Laid, laid_in, literal_of, IsPathOf}
use Rattle.types_declared.specs.Package.{Package, ExportData, spelled, spelled_at}
use Rattle.types_declared.specs.PackageNames.{IsPackageName, ArePackageNames}
use Rattle.types_declared.specs.ExportTablesView.{no_export_data}
use Rattle.types_info.specs.PackageOf.{package_in}
use Rattle.workspace_check.specs.Verdicts.{Verdicts, BuildsOn, IsSeenAs, seen, unseen, AreSeen, IsPackageIn}
use Rattle.workspace_check.proofs.Closed.{to_package}
use Rattle.workspace_check.proofs.OneList.{is_faultless}
use Rattle.workspace_check.proofs.OneVerdict.{one_verdict}
use Rattle.workspace_check.proofs.SameImports.{builds_by, imports_back}
use Rattle.refs_binding.specs.declared.declaration.Declaration.{Declaration}
use Rattle.refs_binding.specs.DeclaringPlaces.{TokenBegins}
use Rattle.refs_binding.specs.Identifiers.{BeginsAt, IsInFiles, IsNameToken, NameBegins}
use Rattle.refs_binding.specs.Uses.{IsCheckedPackage}
use Rattle.refs_lookup.proofs.Apart.{all_as}
use Rattle.refs_lookup.proofs.OnePlace.{same_files, same_layout as same_layout_in, same_size as same_size_in}
use Rattle.law_faultless.proofs.Declared.{name_is, new_site, place_is, role_is, told_identifies}
use Rattle.law_faultless.proofs.FilesDecided.{IsGlobal}
use Rattle.law_faultless.proofs.Numbers.{IsTold, OfKind, files_told}
use Rattle.law_tokens.proofs.Ordered.{same_length}
use Rattle.law_renamed_workspaces.specs.Layouts.{IsToken, IsRelaid, AreSoundBelow, PackagesAreRelaid}
use Rattle.law_renamed_workspaces.specs.Renames.{IsPlainRename}
use Rattle.law_renamed_workspaces.proofs.Literals.{from_string, string_stays, string_was, to_string}
use Rattle.law_renamed_workspaces.proofs.NameTokens.{named_as_spelled}
use Rattle.law_renamed_workspaces.proofs.Packages.{new_parts, new_paths, new_trees, same_imports}
use Rattle.law_renamed_workspaces.proofs.Replaced.{are, called, is_file, other_kept}
use Rattle.law_renamed_workspaces.proofs.Roles.{roles_kept}
use Rattle.law_renamed_workspaces.proofs.SpelledSites.{AreBothSpelled, AreSpelled, IsSpelledBy, all_spelled, plain_stays, size_stays}

-- the files of a package, with new spellings

abbrev new_files : FileChanges → List FileParts → List SourceFile
new_files s ts = map source_of (map (new_parts s) ts)

respelled_as : (s : FileChanges) (spell : Spelling) (rank : ℕ) (ts : List FileParts) →
    ((k : ℕ) (t : FileParts) → slice_get ts k ≡ Some t → spell (rank + k) ≡ spelling_of (source_of (new_parts s t))) →
    respelled_files spell rank (map spelled_file ts) ≡ map spelled_file (map (new_parts s) ts)
unfolding respelled_files
respelled_as s spell rank [] at = refl
respelled_as s spell rank (t ∷ ts) at =
    let zeroed : rank + 0 ≡ rank = omega arith in
    ap₂ (λ (n : ℕ → List ℕ) (fs : List SpelledFile). record { tree = file_view t.file; spell = n } ∷ fs) (ap spell (sym zeroed) ∙ at zero t refl)
    (respelled_as s spell (suc rank) ts (λ k u is. let next : suc rank + k ≡ rank + suc k = omega arith in ap spell next ∙ at (suc k) u is))

keep_all : (spell : Spelling) (rank : ℕ) (ts : List FileParts) →
    ((k : ℕ) (t : FileParts) → slice_get ts k ≡ Some t → KeepsRoles (spelling_of (source_of t)) (spell (rank + k)) (file_view t.file)) →
    KeepAllRoles spell rank (map spelled_file ts)
unfolding KeepAllRoles
keep_all spell rank [] at = tt
keep_all spell rank (t ∷ ts) at =
    let zeroed : rank + 0 ≡ rank = omega arith in (
      subst (λ n. KeepsRoles (spelling_of (source_of t)) (spell n) (file_view t.file)) zeroed (at zero t refl),
      keep_all spell (suc rank) ts
          (λ k u is. let next : rank + suc k ≡ suc rank + k = omega arith in
          subst (λ n. KeepsRoles (spelling_of (source_of u)) (spell n) (file_view u.file)) next (at (suc k) u is)),
    )

same_trees : (s : FileChanges) (ts : List FileParts) → trees_of (new_files s ts) ≡ trees_of (map source_of ts)
same_trees s [] = refl
same_trees s (t ∷ ts) = ap (λ xs. file_view t.file ∷ xs) (same_trees s ts)

same_paths : (s : FileChanges) (ts : List FileParts) → paths_of (new_files s ts) ≡ paths_of (map source_of ts)
same_paths s [] = refl
same_paths s (t ∷ ts) = ap (λ xs. t.path ∷ xs) (same_paths s ts)

file_at : (s : FileChanges) (ts : List FileParts) (k : ℕ) (o : Option FileParts) → slice_get ts k ≡ o →
    slice_get (new_files s ts) k ≡ option_map (λ t. source_of (new_parts s t)) o
file_at s ts k None e =
    slice_get-map source_of (map (new_parts s) ts) k ∙ ap (option_map source_of) (slice_get-map (new_parts s) ts k ∙ ap (option_map (new_parts s)) e)
file_at s ts k (Some t) e =
    slice_get-map source_of (map (new_parts s) ts) k ∙ ap (option_map source_of) (slice_get-map (new_parts s) ts k ∙ ap (option_map (new_parts s)) e)

-- a name stays a name
name_there : (f : SourceFile) (edits : List Edit) → IsSourceFile f → AreNameEdits f.cut.pieces edits → (i : ℕ) → IsNameToken (slice_get (tokens_in f.cut) i) →
    IsNameToken (slice_get (tokens_in (renamed_file edits f).cut) i)
name_there f edits is are i named =
    subst IsNameToken (sym (ap (λ ts. slice_get ts i) (tokens_moved f.cut edits is.is_cut are) ∙ slice_get-map (moved_piece edits) (tokens_in f.cut) i))
    (by_token (slice_get (tokens_in f.cut) i) named)
  where
    by_token : (o : Option Piece) → IsNameToken o → IsNameToken (option_map (moved_piece edits) o)
    by_token None h = h
    by_token (Some x) h = h

-- the same imports declare the same names

module _ (s : FileChanges) (ts : List FileParts) (each : (k : ℕ) (t : FileParts) → slice_get ts k ≡ Some t →
    (n : ℕ) (value : List ℕ) → (HasLiteral (source_of t) n value →
    HasLiteral (source_of (new_parts s t)) n value) × (HasLiteral
    (source_of (new_parts s t)) n value → HasLiteral (source_of t) n value)) where
  path_stays : (p : Laid) (u : ℕ) (path : List ℕ) → IsPathOf (map source_of ts) p u path → IsPathOf (new_files s ts) p u path
  path_stays p u path i =
      let k = (p.layout.place u).file in
      let t = part_at ts k i.source i.is_file in
      record {
        source = source_of (new_parts s t.0);
        is_file = file_at s ts k (Some t.0) t.1.0;
        has_literal =
            (each k t.0 t.1.0 (p.layout.place (literal_of p.layout u)).index path).0
            (subst (λ x. HasLiteral x (p.layout.place (literal_of p.layout u)).index path) (sym t.1.1) i.has_literal);
      }

  path_was : (p : Laid) (u : ℕ) (path : List ℕ) → IsPathOf (new_files s ts) p u path → IsPathOf (map source_of ts) p u path
  path_was p u path i =
      let k = (p.layout.place u).file in
      let n = part_at (map (new_parts s) ts) k i.source i.is_file in
      let t = back (slice_get ts k) n.0 (sym (slice_get-map (new_parts s) ts k) ∙ n.1.0) in
      record {
        source = source_of t.0;
        is_file = slice_get-map source_of ts k ∙ ap (option_map source_of) t.1.0;
        has_literal =
            (each k t.0 t.1.0 (p.layout.place (literal_of p.layout u)).index path).1
            (subst (λ x. HasLiteral x (p.layout.place (literal_of p.layout u)).index path)
            (sym n.1.1 ∙ ap source_of (sym t.1.1)) i.has_literal);
      }
    where
      back : (o : Option FileParts) (y : FileParts) → option_map (new_parts s) o ≡ Some y → (t : FileParts) × ((o ≡ Some t) × (new_parts s t ≡ y))
      back None y e = absurd (none-some y e)
      back (Some t) y e = (t, (refl, same_Some (new_parts s t) y e))

  name_stays : (name_of : List ℕ → Option (List ℕ)) (p : Laid) (u : ℕ) (name : Option (List ℕ)) → IsPackageName (map source_of ts) name_of p u name →
      IsPackageName (new_files s ts) name_of p u name
  name_stays name_of p u name h = record {
    known = λ path i. h.known path (path_was p u path i);
    unknown = λ none. h.unknown (λ path i. none path (path_stays p u path i));
  }

module _ (w : Workspace) (before after : Verdicts) (d : Declaration) (name : List ℕ) (s : FileChanges) (h : IsPlainRename w before d name s)
    (p : Package) (is : IsCheckedPackage w before p) (sound : AreSoundBelow w before after p.path) where
  abbrev ts : List FileParts
  ts = is.is_checked.files

  source_at : (k : ℕ) (t : FileParts) → slice_get ts k ≡ Some t → slice_get p.files k ≡ Some (source_of t)
  source_at k t e =
      ap (λ fs. slice_get fs k) (same_files w before p.path p is.is_checked) ∙ slice_get-map source_of ts k ∙ ap (option_map source_of) e

  -- spellings

  abbrev spell : Spelling
  spell k n = spelled_at (slice_get (new_files s ts) k) n

  spell_is : (k : ℕ) (t : FileParts) → slice_get ts k ≡ Some t → spell k ≡ spelling_of (source_of (new_parts s t))
  spell_is k t e = ap spelled_at (file_at s ts k (Some t) e)

  from_zero : (k : ℕ) → 0 + k ≡ k
  from_zero k = omega arith

  files_are : respelled_files spell 0 (map spelled_file ts) ≡ map spelled_file (map (new_parts s) ts)
  files_are = respelled_as s spell 0 ts (λ k t e. ap spell (from_zero k) ∙ spell_is k t e)

  roles : KeepAllRoles spell 0 (map spelled_file ts)
  roles = keep_all spell 0 ts
      (λ k t e. subst (λ (n : ℕ → List ℕ). KeepsRoles (spelling_of (source_of t)) n (file_view t.file)) (sym (ap spell (from_zero k) ∙ spell_is k t e))
      (roles_kept w before d name s h p is k (source_of t) (source_at k t e)))

  -- what is seen of imported packages

  not_faulty : (q : List ℕ) → BuildsOn w p.path q → (before q).faulty ≡ true → ⊥
  not_faulty q on faulty =
      let has = to_package w p.path q on.imported in
      let same = one_verdict w q (before q) (h.rename.sound.known q) (h.rename.right q has) (h.rename.sound.right q has) in
      true≢false (sym faulty ∙ same.faulty ∙ is_faultless w h.rename.sound q has)

  see : (q : List ℕ) (n : Option (List ℕ)) (e : ExportData) → IsSeenAs w before p.path q n e → (x : ExportData) × IsSeenAs (edited s w) after p.path q n x
  see q _ _ (seen on sees) = (
    (after q).export_data,
    subst (λ n. IsSeenAs (edited s w) after p.path q (Some n) (after q).export_data) (sound.named q on)
        (seen (builds_by w (edited s w) (same_imports w before d name s h) p.path q on) (sound.faultless q on)),
  )
  see q _ _ (unseen none) = (
    no_export_data q,
    unseen (λ on. let was = builds_by (edited s w) w (imports_back w (edited s w) (same_imports w before d name s h)) p.path q on in
        absurd (not_faulty q was (none was))),
  )

  abbrev names : ℕ → Option (List ℕ)
  names = is.is_checked.is_package.is_laid.names

  pub export_data : List ℕ → ExportData
  export_data q = (see q (is.is_checked.name_of q) (is.is_checked.export_data_of q) (is.is_checked.are_seen q)).0

  are_seen : AreSeen (edited s w) after p.path is.is_checked.name_of export_data
  unfolding export_data
  are_seen q = (see q (is.is_checked.name_of q) (is.is_checked.export_data_of q) (is.is_checked.are_seen q)).1

  -- the package

  abbrev plain : ScopedPackage
  plain = scoped (map (new_parts s) ts)

  abbrev laid : ScopedPackage
  laid = with_names names plain

  abbrev new : Package
  new = package_in p.path (new_files s ts) laid export_data

  literals : (k : ℕ) (t : FileParts) → slice_get ts k ≡ Some t → (n : ℕ) (value : List ℕ) →
      (HasLiteral (source_of t) n value → HasLiteral (source_of (new_parts s t)) n value)
      × (HasLiteral (source_of (new_parts s t)) n value → HasLiteral
      (source_of t) n value)
  literals k t e n value =
      let f = source_of t in
      let at = source_at k t e in
      let file = is_file w before d name s h p is k f at in
      let edits = are w before d name s h p is k f at in (
        (λ l. from_string (source_of (new_parts s t)) n value (string_stays f (edits_by (change_of s f.path)) file edits n value (to_string f n value l))),
        (λ l. from_string f n value (string_was f (edits_by (change_of s f.path)) file edits n value (to_string (source_of (new_parts s t)) n value l))),
      )

  plain_layout : layout_in plain ≡ layout_in (scoped ts)
  plain_layout = ap (λ fs. sites_layout (package_sites fs)) (sym files_are) ∙ plain_stays spell (map spelled_file ts) roles

  plain_size : length plain.sites ≡ length (scoped ts).sites
  plain_size = ap (λ fs. length (package_sites fs)) (sym files_are) ∙ size_stays spell (map spelled_file ts) roles

  are_names : ArePackageNames (new_files s ts) is.is_checked.name_of (laid_in plain) names
  are_names u lt unnamed =
      let own = is.is_checked.is_package.is_laid.are_names u (subst (λ n. u < n) plain_size lt)
      (subst (λ (l : Layout). is_unnamed_import (l.role u) ≡ true) plain_layout unnamed) in
      to_new (name_stays s ts literals is.is_checked.name_of (laid_in (scoped ts)) u (names u) own)
    where
      same_path : (path : List ℕ) → IsPathOf (new_files s ts) (laid_in plain) u path → IsPathOf (new_files s ts) (laid_in (scoped ts)) u path
      same_path path i = record {
        source = i.source;
        is_file = subst (λ (l : Layout). slice_get (new_files s ts) (l.place u).file ≡ Some i.source) plain_layout i.is_file;
        has_literal =
            subst (λ (l : Layout). HasLiteral i.source (l.place (literal_of l u)).index path) plain_layout i.has_literal;
      }

      path_back : (path : List ℕ) → IsPathOf (new_files s ts) (laid_in (scoped ts)) u path → IsPathOf (new_files s ts) (laid_in plain) u path
      path_back path i = record {
        source = i.source;
        is_file = subst (λ (l : Layout). slice_get (new_files s ts) (l.place u).file ≡ Some i.source) (sym plain_layout) i.is_file;
        has_literal =
            subst (λ (l : Layout). HasLiteral i.source (l.place (literal_of l u)).index path) (sym plain_layout) i.has_literal;
      }

      to_new : IsPackageName (new_files s ts) is.is_checked.name_of (laid_in (scoped ts)) u (names u) →
          IsPackageName (new_files s ts) is.is_checked.name_of (laid_in plain) u (names u)
      to_new k = record {
        known = λ path i. k.known path (same_path path i);
        unknown = λ none. k.unknown (λ path i. none path (path_back path i));
      }

  new_checked : IsPackageIn (edited s w) after p.path new
  new_checked = record {
    files = map (new_parts s) ts;
    parsed = new_trees w before d name s h p is;
    name_of = is.is_checked.name_of;
    export_data_of = export_data;
    are_seen = are_seen;
    is_package = record { laid = laid; is_laid = record { names = names; are_names = are_names; is_named = refl }; is_package = refl };
  }

  pub new_package : IsCheckedPackage (edited s w) after new
  new_package = record {
    of_workspace = subst (λ ps. Contains ps p.path) (sym (new_paths w before d name s h)) is.of_workspace;
    is_checked = new_checked;
  }

  -- it is the old one, relaid

  layout_is : new.layout ≡ p.layout
  layout_is =
      ap (λ fs. sites_layout (named_sites names (package_sites fs))) (sym files_are) ∙ layout_stays spell (map spelled_file ts) names roles
      ∙ sym (same_layout_in w before p.path p is.is_checked)

  size_is : new.size ≡ p.size
  size_is =
      same_length names plain.sites ∙ plain_size ∙ sym (same_length names (scoped ts).sites) ∙ sym (same_size_in w before p.path p is.is_checked)

  new_at : (k : ℕ) (t : FileParts) → slice_get ts k ≡ Some t → (i : ℕ) → spelled new k i ≡ spelling_of (source_of (new_parts s t)) i
  new_at k t e i = ap (λ o. spelled_at o i) (file_at s ts k (Some t) e)

  old_at : (k : ℕ) (t : FileParts) → slice_get ts k ≡ Some t → (i : ℕ) → spelled p k i ≡ spelling_of (source_of t) i
  old_at k t e i = ap (λ o. spelled_at o i) (source_at k t e)

  -- the tree of a file
  tree_at : (k : ℕ) (f : SourceFile) → slice_get p.files k ≡ Some f → (t : FileParts) × ((slice_get ts k ≡ Some t) × (source_of t ≡ f))
  tree_at k f e = part_at ts k f (subst (λ fs. slice_get fs k ≡ Some f) (same_files w before p.path p is.is_checked) e)

  -- a name at a place is called afterwards as the change has it

  token_called : (k i : ℕ) (t : FileParts) → slice_get ts k ≡ Some t → (place : Place) → IsNameToken (slice_get (tokens_in t.cut) i) → t.path ≡ place.path →
      offset_of (source_of t) i ≡ place.offset → spelled new k i ≡ new_name_at s place (spelled p k i)
  token_called k i t e place named path offset =
      let f = source_of t in
      new_at k t e i ∙ called w before d name s h p is k f (source_at k t e) i named
      ∙ ap₂ (λ (q : List ℕ) (n : ℕ). new_name_at s (record { path = q; offset = n }) (spelling_of f i)) path offset
      ∙ ap (new_name_at s place) (sym (old_at k t e i))

  tokens_are : (at : Position) (place : Place) → IsToken p at place → spelled new at.file at.index ≡ new_name_at s place (spelled p at.file at.index)
  tokens_are at place token =
      let t = tree_at at.file token.file token.of_rank in
      let begins = subst (λ o. TokenBegins o at.index place) token.of_rank token.begins in
      token_called at.file at.index t.0 t.1.0 place (subst (λ (x : SourceFile). IsNameToken (slice_get (tokens_in x.cut) at.index)) (sym t.1.1) token.is_name)
      (ap (λ (x : SourceFile). x.path) t.1.1 ∙ begins.0) (ap (λ x. offset_of x at.index) t.1.1 ∙ begins.1)

  other_token : (at : Position) → ((place : Place) → IsToken p at place → ⊥) → (o : Option FileParts) → slice_get ts at.file ≡ o →
      spelled new at.file at.index ≡ spelled p at.file at.index
  other_token at none None e =
      ap (λ o. spelled_at o at.index) (file_at s ts at.file None e)
      ∙ sym (ap (λ o. spelled_at o at.index) (ap (λ fs. slice_get fs at.file) (same_files w before p.path p is.is_checked) ∙ slice_get-map source_of ts at.file
      ∙ ap (option_map source_of) e))
  other_token at none (Some t) e =
      let f = source_of t in
      let there = source_at at.file t e in
      new_at at.file t e at.index
      ∙ other_kept w before d name s h p is at.file f there at.index
      (λ named. none (record { path = f.path; offset = offset_of f at.index }) (record {
        file = f;
        of_rank = there;
        is_name = named;
        begins = subst (λ o. TokenBegins o at.index (record { path = f.path; offset = offset_of f at.index })) (sym there) (refl, refl);
      }))
      ∙ sym (old_at at.file t e at.index)

  others_are : (at : Position) → ((place : Place) → IsToken p at place → ⊥) → spelled new at.file at.index ≡ spelled p at.file at.index
  others_are at none = other_token at none (slice_get ts at.file) refl

  -- and so are the identifiers

  inside_new : (u : ℕ) → IsInFiles p u → IsInFiles new u
  inside_new u i =
      (subst (λ n. u < n) (sym size_is) i.0, subst (λ (l : Layout). is_implied (l.role u) ≡ false) (sym layout_is) i.1)

  new_named : (u : ℕ) → IsInFiles p u → (t : FileParts) → slice_get ts (p.layout.place u).file ≡ Some t →
      IsNameToken (slice_get (tokens_in t.cut) (p.layout.place u).index) → new.names u ≡ spelled new (p.layout.place u).file (p.layout.place u).index
  new_named u i t e named =
      let at = p.layout.place u in
      let x = source_of (new_parts s t) in
      let place : new.layout.place u ≡ at = ap (λ (l : Layout). l.place u) layout_is in
      let file : slice_get new.files (new.layout.place u).file ≡ Some x =
      ap (λ (q : Position). slice_get (new_files s ts) q.file) place ∙ file_at s ts at.file (Some t) e in
      let there = name_there (source_of t) (edits_by (change_of s t.path)) (is_file w before d name s h p is at.file (source_of t) (source_at at.file t e))
      (are w before d name s h p is at.file (source_of t) (source_at at.file t e)) at.index named in
      named_as_spelled (edited s w) after p.path new new_checked u (inside_new u i) x file
      (subst (λ (q : Position). IsNameToken (slice_get (tokens_in x.cut) q.index)) (sym place) there)
      ∙ ap (λ (q : Position). spelling_of x q.index) place ∙ sym (new_at at.file t e at.index)

  name_called : (u : ℕ) (place : Place) → IsInFiles p u → (o : Option SourceFile) → slice_get p.files (p.layout.place u).file ≡ o →
      NameBegins o (p.layout.place u).index place.path place.offset → new.names u ≡ new_name_at s place (p.names u)
  name_called u place i None e b = absurd b
  name_called u place i (Some f) e b =
      let at = p.layout.place u in
      let t = tree_at at.file f e in
      let named : IsNameToken (slice_get (tokens_in t.0.cut) at.index) =
      subst (λ (x : SourceFile). IsNameToken (slice_get (tokens_in x.cut) at.index)) (sym t.1.1) b.0 in
      new_named u i t.0 t.1.0 named
      ∙ token_called at.file at.index t.0 t.1.0 place named (ap (λ (x : SourceFile). x.path) t.1.1 ∙ b.1) (ap (λ x. offset_of x at.index) t.1.1 ∙ b.2)
      ∙ ap (new_name_at s place) (ap (λ o. spelled_at o at.index) e ∙ sym (named_as_spelled w before p.path p is.is_checked u i f e b.0))

  names_are : (u : ℕ) (place : Place) → BeginsAt p place.path place.offset u → new.names u ≡ new_name_at s place (p.names u)
  names_are u place b = name_called u place b.0 (slice_get p.files (p.layout.place u).file) refl b.1

  abbrev old : Spelling
  old k n = spelled p k n

  told : (x : Site) → IsTold 0 ts x → IsSpelledBy old x
  told x t =
      let number : t.number ≡ x.place.file = (let e : 0 + t.number ≡ x.place.file = t.at in omega arith) in
      let has : slice_get ts x.place.file ≡ Some t.file = subst (λ k. slice_get ts k ≡ Some t.file) number t.of_number in (
        t.named ∙ sym (old_at x.place.file t.file has x.place.index),
        told_identifies (OfKind t.file.cut) (IsGlobal (source_of t.file).tree.decls) (Unit {0}) x.place.index x.role t.told,
      )

  abbrev own : List Site
  own = files_sites 0 (map spelled_file ts)

  all_told : AllByRecursion (IsSpelledBy old) own
  all_told = all_as (IsTold 0 ts) (IsSpelledBy old) told own (files_told 0 ts (package_sources w p.path ts is.is_checked.parsed))

  abbrev site_of : ℕ → Site
  site_of u = new_site w before p.path p is.is_checked u

  new_sites : plain.sites ≡ map universe_site universe ++ map (respelled spell) own
  new_sites = ap package_sites (sym files_are) ∙ package_respelled spell (map spelled_file ts) roles

  spelled_names : (u : ℕ) → AreSpelled old spell (length (scoped ts).sites) u (site_of u) (or_blank (slice_get laid.sites u))
  unfolding package_sites
  spelled_names u =
      subst (λ (xs : List Site). AreSpelled old spell (length (scoped ts).sites) u (site_of u) (or_blank (slice_get (named_sites names xs) u))) (sym new_sites)
      (all_spelled old spell names universe own all_told u)

  by_spelling : (u : ℕ) → ((place : Place) → BeginsAt p place.path place.offset u → ⊥) →
      AreBothSpelled old spell (length (scoped ts).sites) u (site_of u) (or_blank (slice_get laid.sites u)) → new.names u ≡ p.names u
  by_spelling u none b =
      let at = p.layout.place u in
      let place : at ≡ (site_of u).place = place_is w before p.path p is.is_checked u in
      let size = sym (same_length names (scoped ts).sites) ∙ sym (same_size_in w before p.path p is.is_checked) in
      let within : u < p.size = subst (λ n. u < n) size b.within in
      let inside : IsInFiles p u = (within, ap is_implied (role_is w before p.path p is.is_checked u) ∙ b.identifies) in
      let untold : (q : Place) → IsToken p at q → ⊥ =
      λ q token. none q (inside, begins_at token.file at.index q token.of_rank token.is_name token.begins) in
      b.now ∙ ap (λ (q : Position). spelled new q.file q.index) (sym place) ∙ others_are at untold
      ∙ ap (λ (q : Position). spelled p q.file q.index) place ∙ sym b.was ∙ sym (name_is w before p.path p is.is_checked u)
    where
      begins_at : (f : SourceFile) (i : ℕ) (q : Place) → slice_get p.files (p.layout.place u).file ≡ Some f → IsNameToken (slice_get (tokens_in f.cut) i) →
          TokenBegins (slice_get p.files (p.layout.place u).file) i q → NameBegins (slice_get p.files (p.layout.place u).file) i q.path q.offset
      begins_at f i q e named begins =
          let there = subst (λ o. TokenBegins o i q) e begins in
          subst (λ o. NameBegins o i q.path q.offset) (sym e) (named, there.0, there.1)

  other_names_are : (u : ℕ) → ((place : Place) → BeginsAt p place.path place.offset u → ⊥) → new.names u ≡ p.names u
  other_names_are u none = elim (spelled_names u) [
    | inl same ↦ same ∙ sym (name_is w before p.path p is.is_checked u)
    | inr both ↦ by_spelling u none both
  ]

  pub relaid : IsRelaid (revision_of w s) p new
  relaid = record {
    path = refl;
    size = size_is;
    layout = layout_is;
    trees = same_trees s ts ∙ sym (ap trees_of (same_files w before p.path p is.is_checked));
    paths = same_paths s ts ∙ sym (ap paths_of (same_files w before p.path p is.is_checked));
    tokens = tokens_are;
    other_tokens = others_are;
    names = names_are;
    other_names = other_names_are;
  }

-- The verdicts of afterwards need not be right: of them only names, and that there are no faults, count.
pub relaid_by : (w : Workspace) (before after : Verdicts) (d : Declaration) (name : List ℕ) (s : FileChanges) → IsPlainRename w before d name s →
    (p : Package) → IsCheckedPackage w before p → AreSoundBelow w before after p.path →
    (q : Package) × (IsCheckedPackage (edited s w) after q × IsRelaid (revision_of w s) p q)
relaid_by w before after d name s h p is sound =
    (new w before after d name s h p is sound, (new_package w before after d name s h p is sound, relaid w before after d name s h p is sound))

pub packages_are : PackagesAreRelaid
packages_are w before after d name s h right p is sound = relaid_by w before after d name s h p is sound
