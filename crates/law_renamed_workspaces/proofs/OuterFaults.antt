-- After a rename a package has the name that it had, and no fault of clauses or imports comes.
use Rattle.std.proofs.Common.{ℕ, suc, ◌≡◌, ◌+◌, inl, inr, List, [], ◌∷◌, ◌++◌, map, ap, refl, sym, subst, ◌∙◌}
use Rattle.std.specs.Prelude.{Some, slice_get, option_map}
use Rattle.std.specs.List.{flat_map, enumerate_from}
use Rattle.std.proofs.lemmas.Option.{slice_get-map}
use Rattle.base_edits.specs.EditSet.{FileChanges, change_of}
use Rattle.base_edits.specs.Moved.{edits_by}
use Rattle.base_files.specs.Workspace.{Workspace}
use Rattle.go_ast.specs.SourceFile.{SourceFile, FileParts, source_of}
use Rattle.go_ast.specs.Tree.{ImportTree}
use Rattle.types_declared.specs.declared.fault.Fault.{Fault}
use Rattle.types_declared.specs.declared.states.ImportState.{ImportState}
use Rattle.types_declared.specs.Files.{RankedSource, ranked_files, imports_in, clause_name, package_name, HasLiteral}
use Rattle.types_declared.specs.Listing.{IsOfSomeItem}
use Rattle.types_declared.specs.Package.{Package}
use Rattle.types_resolve.specs.Clauses.{IsFaultOfClause, IsClauseFault}
use Rattle.types_resolve.specs.Imports.{PlacedImport, IsFaultOfImport, placed_imports}
use Rattle.types_resolve.specs.Stages.{IsOuterFault}
use Rattle.workspace_check.specs.Verdicts.{Verdicts}
use Rattle.refs_binding.specs.declared.declaration.Declaration.{Declaration}
use Rattle.refs_binding.specs.Uses.{IsCheckedPackage}
use Rattle.refs_lookup.proofs.OnePlace.{same_files}
use Rattle.law_renamed_workspaces.specs.Renames.{IsPlainRename}
use Rattle.law_renamed_workspaces.proofs.Literals.{to_string, from_string, string_was}
use Rattle.law_renamed_workspaces.proofs.Packages.{new_parts}
use Rattle.law_renamed_workspaces.proofs.Replaced.{is_file, are}
use Rattle.law_renamed_workspaces.proofs.ClauseNames.{clause_kept}

abbrev pub new_sources : FileChanges → List FileParts → List SourceFile
new_sources s ts = map source_of (map (new_parts s) ts)

abbrev KeepClauses : FileChanges → List FileParts → Type 0
KeepClauses s ts = (k : ℕ) (t : FileParts) → slice_get ts k ≡ Some t → clause_name (source_of (new_parts s t)) ≡ clause_name (source_of t)

abbrev KeepLiterals : FileChanges → List FileParts → Type 0
KeepLiterals s ts = (k : ℕ) (t : FileParts) → slice_get ts k ≡ Some t → (n : ℕ) (value : List ℕ) → HasLiteral (source_of (new_parts s t)) n value →
    HasLiteral (source_of t) n value

first_name : (s : FileChanges) (ts : List FileParts) → KeepClauses s ts → package_name (new_sources s ts) ≡ package_name (map source_of ts)
first_name s [] keep = refl
first_name s (t ∷ ts) keep = keep 0 t refl

clauses_were : (s : FileChanges) (name : List ℕ) (n : ℕ) (ts : List FileParts) → KeepClauses s ts → (f : Fault) →
    IsOfSomeItem (IsFaultOfClause name) (enumerate_from n (new_sources s ts)) f →
    IsOfSomeItem (IsFaultOfClause name) (enumerate_from n (map source_of ts)) f
clauses_were s name n [] keep f h = h
clauses_were s name n (t ∷ ts) keep f (inl h) = inl (record { at = h.at; differs = λ e. h.differs (keep 0 t refl ∙ e) })
clauses_were s name n (t ∷ ts) keep f (inr h) = inr (clauses_were s name (n + 1) ts (λ k u at. keep (suc k) u at) f h)

-- the imports of one file, before those of other files
imports_of_file : (state : List ℕ → ImportState) (new old : RankedSource) → new.0 ≡ old.0 →
    ((n : ℕ) (value : List ℕ) → HasLiteral new.1 n value → HasLiteral old.1 n value) →
    (is : List ImportTree) (new_rest old_rest : List PlacedImport) (f : Fault) →
    (IsOfSomeItem (IsFaultOfImport state) new_rest f → IsOfSomeItem (IsFaultOfImport state) old_rest f) →
    IsOfSomeItem (IsFaultOfImport state) (map (λ i. (new, i)) is ++ new_rest) f → IsOfSomeItem (IsFaultOfImport state) (map (λ i. (old, i)) is ++ old_rest) f
imports_of_file state new old rank literal [] new_rest old_rest f later h = later h
imports_of_file state new old rank literal (i ∷ is) new_rest old_rest f later (inl h) = inl (record {
  path = h.path;
  has_path = literal i.path h.path h.has_path;
  of_state = record { in_file = h.of_state.in_file ∙ rank; at_token = h.of_state.at_token; kind = h.of_state.kind };
})
imports_of_file state new old rank literal (i ∷ is) new_rest old_rest f later (inr h) =
    inr (imports_of_file state new old rank literal is new_rest old_rest f later h)

imports_were : (state : List ℕ → ImportState) (s : FileChanges) (n : ℕ) (ts : List FileParts) → KeepLiterals s ts → (f : Fault) →
    IsOfSomeItem (IsFaultOfImport state) (flat_map placed_imports (enumerate_from n (new_sources s ts))) f →
    IsOfSomeItem (IsFaultOfImport state) (flat_map placed_imports (enumerate_from n (map source_of ts))) f
imports_were state s n [] keep f h = h
imports_were state s n (t ∷ ts) keep f h =
    imports_of_file state (n, source_of (new_parts s t)) (n, source_of t) refl (keep 0 t refl) (imports_in (source_of t).tree)
    (flat_map placed_imports (enumerate_from (n + 1) (new_sources s ts))) (flat_map placed_imports (enumerate_from (n + 1) (map source_of ts))) f
    (imports_were state s (n + 1) ts (λ k u at. keep (suc k) u at) f) h

module _ (w : Workspace) (known : Verdicts) (d : Declaration) (name : List ℕ) (s : FileChanges) (h : IsPlainRename w known d name s) (p : Package)
    (is : IsCheckedPackage w known p) where
  abbrev ts : List FileParts
  ts = is.is_checked.files

  source_at : (k : ℕ) (t : FileParts) → slice_get ts k ≡ Some t → slice_get p.files k ≡ Some (source_of t)
  source_at k t e =
      ap (λ fs. slice_get fs k) (same_files w known p.path p is.is_checked) ∙ slice_get-map source_of ts k ∙ ap (option_map source_of) e

  keep_clauses : KeepClauses s ts
  keep_clauses k t e = clause_kept w known d name s h p is k (source_of t) (source_at k t e)

  keep_literals : KeepLiterals s ts
  keep_literals k t e n value l =
      let f = source_of t in
      let at = source_at k t e in
      from_string f n value
      (string_was f (edits_by (change_of s f.path)) (is_file w known d name s h p is k f at) (are w known d name s h p is k f at) n value
      (to_string (source_of (new_parts s t)) n value l))

  -- the package has the name that it had
  pub name_stays : package_name (new_sources s ts) ≡ package_name p.files
  name_stays = first_name s ts keep_clauses ∙ ap package_name (sym (same_files w known p.path p is.is_checked))

  clause_was : (f : Fault) → IsClauseFault (new_sources s ts) f → IsClauseFault (map source_of ts) f
  clause_was f c =
      clauses_were s (package_name (map source_of ts)) 0 ts keep_clauses f
      (subst (λ n. IsOfSomeItem (IsFaultOfClause n) (ranked_files (new_sources s ts)) f) (first_name s ts keep_clauses) c)

  pub no_outer_fault : (state : List ℕ → ImportState) → ((f : Fault) → IsOuterFault state (map source_of ts) f → ⊥) → (f : Fault) →
      IsOuterFault state (new_sources s ts) f → ⊥
  no_outer_fault state fine f (inl c) = fine f (inl (clause_was f c))
  no_outer_fault state fine f (inr i) = fine f (inr ((λ g c. fine g (inl c)), imports_were state s 0 ts keep_literals f i.1))
