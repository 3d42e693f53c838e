-- After a move no package has a fault of clauses or imports: the name in all its clauses follows its path, and its imports are there.
use Rattle.std.proofs.Common.{ℕ, suc, ◌≡◌, ◌+◌, inl, inr, List, [], ◌∷◌, map, ap, refl, sym, subst, ◌∙◌}
use Rattle.std.specs.Prelude.{Some, slice_get, unwrap_or}
use Rattle.std.specs.List.{enumerate_from, flat_map}
use Rattle.std.proofs.lemmas.Bool.{true≢false}
use Rattle.std.proofs.lemmas.Option.{none-some}
use Rattle.base_edits.specs.EditSet.{FileChanges, edited}
use Rattle.base_edits.specs.Fits.{path_after}
use Rattle.base_files.specs.Packages.{package_files}
use Rattle.base_files.specs.Workspace.{Workspace}
use Rattle.go_ast.specs.SourceFile.{FileParts, SourceFile, source_of}
use Rattle.types_declared.specs.declared.fault.Fault.{Fault}
use Rattle.types_declared.specs.declared.states.ImportState.{ImportState}
use Rattle.types_declared.specs.declared.states.ImportState.TheVariants.{Good}
use Rattle.types_declared.specs.Files.{clause_name, package_name, ranked_files}
use Rattle.types_declared.specs.Listing.{IsOfSomeItem}
use Rattle.types_declared.specs.Package.{Package}
use Rattle.types_resolve.specs.Clauses.{IsClauseFault, IsFaultOfClause}
use Rattle.types_resolve.specs.Imports.{IsFaultOfImport, IsImportFault, placed_imports}
use Rattle.types_resolve.specs.Stages.{IsOuterFault}
use Rattle.workspace_graph.specs.Packages.{PackageImports}
use Rattle.workspace_graph.specs.Parsed.{AreParsed}
use Rattle.workspace_check.specs.Verdicts.{Verdicts, AreStates, IsStateOf, is_missing, is_on_cycle, is_faulty, is_good}
use Rattle.workspace_check.proofs.Closed.{to_package}
use Rattle.workspace_check.proofs.Importing.{outer_as}
use Rattle.refs_binding.specs.Uses.{IsCheckedPackage}
use Rattle.refactor_move.specs.declared.moved.Moved.{Moved}
use Rattle.law_moves.specs.MovedPackages.{name_after}
use Rattle.law_moves.specs.Moves.{IsMove}
use Rattle.law_moves.proofs.ClauseNames.{new_name}
use Rattle.law_moves.proofs.Clauses.{clause_after}
use Rattle.law_moves.proofs.NewFiles.{new_parts, new_trees}
use Rattle.law_moves.proofs.NewLayout.{source_at}
use Rattle.refactor_known.specs.Swaps.{swapped}
use Rattle.law_moves.specs.MovedVerdicts.{MovesBySwap, moved_verdicts}
use Rattle.law_moves.proofs.CheckedThere.{g, imports_good, x}
use Rattle.refs_lookup.proofs.OnePlace.{same_files}

no_item : {X : Type 0} (P : X → Fault → Type 0) (f : Fault) → ((i : X) → P i f → ⊥) → (xs : List X) → IsOfSomeItem P xs f → ⊥
no_item P f none [] h = h
no_item P f none (i ∷ is) (inl h) = none i h
no_item P f none (i ∷ is) (inr h) = no_item P f none is h

-- imports of packages without faults have no fault
all_good : (files : List SourceFile) (f : Fault) → IsImportFault (λ path. Good) files f → ⊥
all_good files f h = no_item (IsFaultOfImport (λ path. Good)) f (λ i fault. none-some f.kind fault.of_state.kind) (flat_map placed_imports (ranked_files
    files)) h

abbrev FollowPath : FileChanges → (List ℕ → List ℕ) → List FileParts → Type 0
FollowPath s name ts = (k : ℕ) (t : FileParts) → slice_get ts k ≡ Some t → clause_name (source_of (new_parts s t)) ≡ name (clause_name (source_of t))

clauses_were : (s : FileChanges) (name : List ℕ → List ℕ) (old new : List ℕ) → new ≡ name old → (n : ℕ) (ts : List FileParts) → FollowPath s name ts →
    (f : Fault) → IsOfSomeItem (IsFaultOfClause new) (enumerate_from n (map source_of (map (new_parts s) ts))) f →
    IsOfSomeItem (IsFaultOfClause old) (enumerate_from n (map source_of ts)) f
clauses_were s name old new e n [] follow f h = h
clauses_were s name old new e n (t ∷ ts) follow f (inl h) =
    inl (record { at = h.at; differs = λ same. h.differs (follow 0 t refl ∙ ap name same ∙ sym e) })
clauses_were s name old new e n (t ∷ ts) follow f (inr h) =
    inr (clauses_were s name old new e (n + 1) ts (λ k u at. follow (suc k) u at) f h)

module _ (w : Workspace) (before : Verdicts) (from to : List ℕ) (s : FileChanges) (h : IsMove w before from to s) (swap : MovesBySwap w from to)
    (p : Package) (is : IsCheckedPackage w before p) where
  abbrev ts : List FileParts
  ts = is.is_checked.files

  abbrev moved : Moved
  moved = h.edits.moved

  follow : FollowPath s (name_after moved p.path) ts
  follow k t at =
      clause_after w before from to s h p is k (source_of t) (source_at w before from to s h p is k t at) (unwrap_or (path_after s t.path) t.path)

  name_now : package_name (map source_of (map (new_parts s) ts)) ≡ name_after moved p.path (package_name (map source_of ts))
  name_now = new_name w before from to s h p is ∙ ap (λ fs. name_after moved p.path (package_name fs)) (same_files w before p.path p is.is_checked)

  clause_was : (f : Fault) → IsClauseFault (map source_of (map (new_parts s) ts)) f → IsClauseFault (map source_of ts) f
  clause_was f c =
      clauses_were s (name_after moved p.path) (package_name (map source_of ts)) (package_name (map source_of (map (new_parts s) ts))) name_now 0 ts follow f c

  good_state : (path : List ℕ) → PackageImports (x w before from to s h swap) ((g w before from to s h swap) p.path) path → (state : ImportState) →
      IsStateOf (edited s w) (moved_verdicts moved (swapped from to) before) (swapped from to p.path) path state →
      IsStateOf (edited s w) (moved_verdicts moved (swapped from to) before) (swapped from to p.path) path Good
  good_state path i _ (is_missing none) = absurd (imports_good w before from to s h swap p is path i (λ on. none (to_package (edited s w)
      (swapped from to p.path) path on.imported)))
  good_state path i _ (is_on_cycle back) = absurd (imports_good w before from to s h swap p is path i (λ on. on.not_back back))
  good_state path i _ (is_faulty on is_so) = absurd (true≢false (sym is_so))
  good_state path i _ (is_good on fine) = is_good on fine

  pub no_outer_fault : ((f : Fault) → IsClauseFault (map source_of ts) f → ⊥) → (state : List ℕ → ImportState) →
      AreStates (edited s w) (moved_verdicts moved (swapped from to) before) (swapped from to p.path) state → (f : Fault) →
      IsOuterFault state (map source_of (map (new_parts s) ts)) f → ⊥
  no_outer_fault fine state are f o =
      let trees = subst (λ r. AreParsed (package_files (edited s w) r) (map (new_parts s) ts) []) (sym (swap.goes p.path is.of_workspace))
      (new_trees w before from to s h p is) in
      elim (outer_as (edited s w) (moved_verdicts moved (swapped from to) before) (swapped from to p.path) (map (new_parts s) ts) trees state
      (λ path. Good) are (λ path i. good_state path i (state path) (are path i)) f o) [
        | inl c ↦ fine f (clause_was f c)
        | inr i ↦ all_good (map source_of (map (new_parts s) ts)) f i.1
      ]
