-- The moved verdicts are right on the edited workspace, along the imports.
use Rattle.std.proofs.Common.{ℕ, ◌≡◌, inl, inr, List, [], map, ap, refl, sym, subst, ◌∙◌}
use Rattle.std.specs.Prelude.{Contains}
use Rattle.std.proofs.lemmas.Bool.{true≢false}
use Rattle.base_edits.specs.EditSet.{FileChanges, edited}
use Rattle.base_files.specs.Packages.{package_files, package_paths}
use Rattle.base_files.specs.Workspace.{Workspace}
use Rattle.go_ast.specs.SourceFile.{FileParts, source_of}
use Rattle.go_scope.specs.Bindings.{IsPackageLevel, Names}
use Rattle.types_declared.specs.declared.fault.Fault.{Fault}
use Rattle.types_declared.specs.Files.{package_name}
use Rattle.types_declared.specs.Package.{Package}
use Rattle.types_declared.specs.Stage.{FirstOf}
use Rattle.types_members.specs.MemberFaults.{IsMemberFault}
use Rattle.types_resolve.specs.Clauses.{IsClauseFault}
use Rattle.types_resolve.specs.Stages.{IsOuterFault}
use Rattle.types_check.specs.Check.{IsLaterFault}
use Rattle.types_check.specs.Exports.{IsExportData}
use Rattle.types_check.specs.TypeFaults.{IsTypeFault}
use Rattle.workspace_graph.specs.Packages.{IsInClosure}
use Rattle.workspace_graph.specs.Parsed.{AreParsed}
use Rattle.workspace_check.specs.declared.fault.FileFault.{FileFault}
use Rattle.workspace_check.specs.Faults.{placed_in}
use Rattle.workspace_check.specs.Verdicts.{Verdicts, AreVerdicts, AreVerdictsBelow, BuildsOn}
use Rattle.workspace_check.specs.Verdicts.{IsFaultBy, IsFaultBehindOuter, IsPackageIn, IsReadFault, IsVerdict}
use Rattle.workspace_check.specs.Verdicts.{IsVerdictBy, follows}
use Rattle.workspace_check.proofs.FaultFiles.{in_outer, some_source}
use Rattle.workspace_check.proofs.OneList.{no_fault}
use Rattle.workspace_check.proofs.OnePackage.{one_checked, one_sources}
use Rattle.workspace_check.proofs.Unread.{none_unread}
use Rattle.refs_binding.specs.Uses.{IsCheckedPackage}
use Rattle.refs_lookup.proofs.Faultless.{all_decided, are_states, no_fault_later, state_in}
use Rattle.law_renamed_workspaces.proofs.Packages.{package_there}
use Rattle.law_renamed_workspaces.proofs.AlongImports.{along}
use Rattle.law_renamed_workspaces.proofs.Counting.{each_counts}
use Rattle.law_renamed_workspaces.proofs.PackagesAfter.{has_data}
use Rattle.law_changed_types.specs.Moves.{FilesMove}
use Rattle.law_changed_types.specs.MovedPackage.{WorldsMove}
use Rattle.law_moves.specs.MovedPackages.{name_after}
use Rattle.law_moves.specs.Moves.{IsMove}
use Rattle.law_moves.proofs.ClauseNames.{new_name}
use Rattle.law_moves.proofs.NewFiles.{new_parts, new_trees}
use Rattle.refactor_known.specs.MovedData.{moved_data}
use Rattle.refactor_known.specs.Swaps.{swapped}
use Rattle.law_moves.specs.MovedVerdicts.{IsBoundAfterMove, MovesBySwap, moved_verdicts}
use Rattle.law_moves.proofs.CheckedThere as there
use Rattle.law_moves.proofs.InnerFaults.{no_inner_fault}
use Rattle.law_moves.proofs.MemberFaults.{no_member_fault}
use Rattle.law_moves.proofs.MovedExports.{data_moves}
use Rattle.law_moves.proofs.OuterFaults.{no_outer_fault}
use Rattle.law_moves.proofs.PathsAfter.{built, had}
use Rattle.law_moves.proofs.Swapped.{injective}
use Rattle.law_moves.proofs.TypeFaults.{no_type_fault}

module _ (worlds_move : WorldsMove) (files_move : FilesMove) (w : Workspace) (before : Verdicts) (from to : List ℕ) (s : FileChanges)
    (h : IsMove w before from to s) (swap : MovesBySwap w from to) where
  abbrev x : Workspace
  x = edited s w

  abbrev g : List ℕ → List ℕ
  g = swapped from to

  abbrev after : Verdicts
  after = moved_verdicts h.edits.moved g before

  module _ (p : Package) (is : IsCheckedPackage w before p) (q : Package) (bound : IsBoundAfterMove w from to s p q) where
    abbrev checked : Package
    checked = there.checked w before from to s h swap p is q bound

    abbrev ts : List FileParts
    ts = is.is_checked.files

    at_path : q.path ≡ g p.path
    at_path = bound.path ∙ sym (swap.goes p.path is.of_workspace)

    is_there : IsPackageIn x after (g p.path) checked
    is_there = subst (λ r. IsPackageIn x after r checked) at_path (there.is_checked w before from to s h swap p is q bound)

    levels : (d : ℕ) → IsPackageLevel p.layout d → checked.names d ≡ p.names d
    levels d level = ap (λ (n : Names). n d) (there.scopes w before from to s h swap p is q bound).names ∙ bound.levels d level

    later : (f : Fault) → IsLaterFault p f → ⊥
    later = no_fault_later w h.sound before h.right p is

    member_fine : (f : Fault) → IsMemberFault p f → ⊥
    member_fine f m = later f (inr ((λ k i. later k (inl i)), inl m))

    type_fine : (f : Fault) → IsTypeFault p f → ⊥
    type_fine f t = later f (inr ((λ k i. later k (inl i)), inr ((λ k m. member_fine k m), t)))

    no_later : (f : Fault) → IsLaterFault checked f → ⊥
    no_later f (inl i) =
        no_inner_fault g w x before after p checked is.is_checked (there.is_checked w before from to s h swap p is q bound)
        (there.moved w before from to s h swap p is q bound) levels (λ k j. later k (inl j)) f i
    no_later f (inr (none, inl m)) =
        no_member_fault g (injective w from to swap) p checked (there.moved w before from to s h swap p is q bound)
        (each_counts w h.sound before h.right p is) member_fine f m
    no_later f (inr (none, inr (never, t))) =
        no_type_fault worlds_move files_move g (injective w from to swap) w h.sound before h.right from to s p q is bound x after checked
        (there.is_checked w before from to s h swap p is q bound) (there.moved w before from to s h swap p is q bound)
        (sym (there.scopes w before from to s h swap p is q bound).files) type_fine f t

    trees_there : AreParsed (package_files x (g p.path)) (map (new_parts s) ts) []
    trees_there = subst (λ r. AreParsed (package_files x r) (map (new_parts s) ts) []) (sym (swap.goes p.path is.of_workspace))
        (new_trees w before from to s h p is)

    was_clause_fine : (f : Fault) → IsClauseFault (map source_of ts) f → ⊥
    was_clause_fine f c =
        all_decided (λ r. IsInClosure w r p.path) (package_paths w)
        (λ decided.
        let state = state_in w h.sound.known p.path decided in
        let source = some_source (map source_of ts) f (in_outer state (map source_of ts) f (inl c)) in
        no_fault w h.sound p.path is.of_workspace (placed_in source.0 f)
        (inr (record {
          files = ts;
          parsed = is.is_checked.parsed;
          state = state;
          are_states = are_states w h.sound.known p.path decided;
          fault = f;
          is_fault = inl (inl c);
          source = source.0;
          in_file = source.1;
          at = refl;
        })))

    no_read : (f : FileFault) → IsReadFault x after (g p.path) f → ⊥
    no_read f r = by_stage r.is_fault
      where
        sources : map source_of r.files ≡ map source_of (map (new_parts s) ts)
        sources = one_sources r.parsed trees_there

        by_stage : FirstOf (IsOuterFault r.state (map source_of r.files)) (IsFaultBehindOuter x after (g p.path)) r.fault → ⊥
        by_stage (inl o) =
            no_outer_fault w before from to s h swap p is was_clause_fine r.state r.are_states r.fault
            (subst (λ fs. IsOuterFault r.state fs r.fault) sources o)
        by_stage (inr inner) =
            let i = inner.1 in
            let one : i.checked ≡ checked = one_checked x after (g p.path) i.checked checked i.is_package is_there in
            no_later r.fault (subst (λ c. IsLaterFault c r.fault) one i.is_fault)

    pub no_fault_now : (f : FileFault) → IsFaultBy x after (g p.path) f → ⊥
    no_fault_now f (inl u) = none_unread x (g p.path) (map (new_parts s) ts) trees_there f u
    no_fault_now f (inr r) = no_read f r

    clause : package_name checked.files ≡ name_after h.edits.moved p.path (package_name p.files)
    clause = ap package_name (there.sources w before from to s h swap p is q bound) ∙ new_name w before from to s h p is

    new_data : IsExportData checked (moved_data h.edits.moved.from h.edits.moved.name g p.path (before p.path).export_data)
    new_data =
        data_moves g (injective w from to swap) p checked (there.moved w before from to s h swap p is q bound) levels h.edits.moved
        (before p.path).export_data (has_data w h.sound before h.right p is) clause

    pub by_below : IsVerdictBy x after (g p.path) (after (g p.path))
    by_below = record {
      has_faults = ((λ e. absurd (true≢false (sym e))), (λ f. absurd (no_fault_now f.0 f.1)));
      has_export_data = λ e. record {
        checked = checked;
        is_package = is_there;
        is_export_data = subst (IsExportData checked) (sym (there.data_at w before from to s h swap p.path)) new_data;
      };
    }

  -- along the imports
  module _ (bound : (p : Package) → IsCheckedPackage w before p → (q : Package) × IsBoundAfterMove w from to s p q) where
    abbrev IsRight : List ℕ → Type 0
    IsRight path = IsVerdict x (g path) (after (g path))

    step : (path : List ℕ) → Contains (package_paths w) path → ((o : List ℕ) → BuildsOn w path o → IsRight o) → IsRight path
    step path has below =
        let o = package_there w h.sound before h.right path has in
        let b = bound o.0 o.1.0 in
        let under : AreVerdictsBelow x (g path) after = λ r on.
        subst (λ z. IsVerdict x z (after z)) (swap.inverse r) (below (g r) (built w before from to s h swap path r has on)) in
        follows after under (subst (λ z. IsVerdictBy x after (g z) (after (g z))) o.1.1 (by_below o.0 o.1.0 b.0 b.1))

    pub are_right : AreVerdicts x after
    are_right path has =
        let was = had w before from to s h swap path has in
        subst (λ z. IsVerdict x z (after z)) (swap.inverse path) (along w IsRight step (g path) (before (g path)) (h.right (g path) was) was)
