-- The edited workspace has verdicts after a plain rename that is harmless: no package has a fault, and the export data are the old ones
-- under new names.
use Rattle.std.proofs.Common.{ℕ, ◌≡◌, ◌⊎◌, inl, inr, false, List, [], ap, sym, subst, ◌∙◌}
use Rattle.std.specs.Prelude.{Option, Some, None, slice_get, Contains}
use Rattle.std.proofs.lemmas.Bool.{true≢false}
use Rattle.base_edits.specs.EditSet.{FileChanges, edited}
use Rattle.base_edits.specs.Revisions.{Revision}
use Rattle.base_edits.specs.RevisionsOfEdits.{revision_of}
use Rattle.base_files.specs.Packages.{package_paths}
use Rattle.base_files.specs.Workspace.{Workspace}
use Rattle.types_expr.specs.World.{Definition}
use Rattle.types_expr.specs.WorldView.{no_definition}
use Rattle.types_declared.specs.declared.fault.Fault.{Fault}
use Rattle.types_declared.specs.Definitions.{IsDefinition}
use Rattle.types_declared.specs.Files.{package_name}
use Rattle.types_declared.specs.Package.{Package, ExportData, PlacedType, package_types, symbol_in}
use Rattle.types_check.specs.Check.{IsLaterFault}
use Rattle.types_check.specs.Exports.{IsExportData}
use Rattle.types_members.specs.MemberFaults.{IsMemberFault}
use Rattle.workspace_check.specs.Earlier.{HaveSameImports}
use Rattle.workspace_check.specs.FaultLists.{ListsFaults}
use Rattle.workspace_check.specs.Verdicts.{Verdict, Verdicts, AreVerdicts, AreVerdictsBelow, BuildsOn, IsVerdictBy, IsVerdict, follows}
use Rattle.workspace_check.proofs.SameImports.{imports_back, builds_by}
use Rattle.refs_binding.specs.declared.declaration.Declaration.{Declaration}
use Rattle.refs_binding.specs.Uses.{IsCheckedPackage}
use Rattle.refs_lookup.proofs.Faultless.{no_fault_later}
use Rattle.law_changed_types.proofs.Alike.{Alike, of_bound}
use Rattle.law_renamed_workspaces.specs.Harmless.{IsHarmless}
use Rattle.law_renamed_workspaces.specs.Layouts.{IsRelaid}
use Rattle.law_renamed_workspaces.specs.Renames.{IsPlainRename}
use Rattle.law_renamed_workspaces.proofs.Packages.{package_there, same_imports}
use Rattle.law_renamed_workspaces.proofs.CountingMembers.{types_listed}
use Rattle.law_renamed_workspaces.proofs.SeenAfter.{seen_follow}
use Rattle.law_renamed_workspaces.proofs.SeenLookups.{listed_or_not}
use Rattle.law_renamed_workspaces.proofs.OwnNames.{own_renames}
use Rattle.law_renamed_workspaces.proofs.RenamedScopesRenamed.{others_stay}
use Rattle.law_renamed_workspaces.specs.VerdictsStay.{IsPackageAfter, IsMovedVerdict}
use Rattle.law_renamed_workspaces.proofs.AlongImports as along_imports
use Rattle.law_renamed_workspaces.proofs.AlongImports.{along}
use Rattle.law_renamed_workspaces.proofs.DeclaredNames.{moves_level, keeps_levels}
use Rattle.law_renamed_workspaces.proofs.Laws.{exported, no_fault_by}
use Rattle.law_renamed_workspaces.proofs.OuterFaults.{name_stays}
use Rattle.law_renamed_workspaces.specs.VerdictsAfter.{RenamesHaveVerdicts}
use Rattle.law_renamed_workspaces.proofs.NewExports.{new_exported, is_new_exported}
use Rattle.law_renamed_workspaces.proofs.NewMembers.{new_definition, is_new_definition}

module _ (w : Workspace) (before : Verdicts) (d : Declaration) (name : List ℕ) (s : FileChanges) (plain : IsPlainRename w before d name s)
    (none : IsHarmless w before (revision_of w s)) where
  abbrev x : Workspace
  x = edited s w

  abbrev r : Revision
  r = revision_of w s

  abbrev sound : ListsFaults w []
  sound = plain.rename.sound

  abbrev was_right : AreVerdicts w before
  was_right = plain.rename.right

  -- the export data of a package after the rename

  module _ (p : Package) (was : IsCheckedPackage w before p) (i : ExportData) where
    abbrev by_type : ℕ → Option PlacedType → Definition
    by_type rank None = i.definition rank
    by_type rank (Some t) = new_definition w before r p was (i.definition rank) rank

    abbrev new_data : ExportData
    new_data = record {
      name = i.name;
      exported = λ n. new_exported w sound before was_right p was i d name n;
      definition = λ rank. by_type rank (slice_get (package_types p) rank);
    }

    -- they are those of the package after it
    module _ (data_was : IsExportData p i) (q : Package) (relaid : IsRelaid r p q) (alike : Alike p q) (fine : (f : Fault) → IsMemberFault p f → ⊥)
        (fine_now : (f : Fault) → IsMemberFault q f → ⊥) (clause : package_name q.files ≡ package_name p.files) where
      type_before : (rank : ℕ) (o : Option PlacedType) → slice_get (package_types q) rank ≡ o → slice_get (package_types p) rank ≡ o
      type_before rank o at = subst (λ ts. slice_get ts rank ≡ o) (types_listed w before r p q was relaid) at

      definition_now : (rank : ℕ) (t : PlacedType) → slice_get (package_types q) rank ≡ Some t → IsDefinition q rank (new_data.definition rank)
      definition_now rank t at =
          let then = type_before rank (Some t) at in
          subst (λ o. IsDefinition q rank (by_type rank o)) (sym then)
          (is_new_definition w before r p was q relaid alike fine fine_now (i.definition rank) rank (data_was.definitions rank t then))

      beyond_now : (rank : ℕ) → slice_get (package_types q) rank ≡ None → new_data.definition rank ≡ no_definition (symbol_in q rank)
      beyond_now rank at =
          let then = type_before rank None at in
          ap (by_type rank) then ∙ data_was.beyond rank then
          ∙ ap (λ (path : List ℕ). no_definition (record { «package» = path; rank = rank })) (sym relaid.path)

      is_new_data : IsExportData q new_data
      is_new_data = record {
        name = data_was.name ∙ sym clause;
        exported =
            is_new_exported w sound before was_right p was q alike i data_was.exported d name
            (λ m e level. moves_level own_renames others_stay w before d name s plain p q was relaid m e level)
            (λ other. keeps_levels own_renames others_stay w before d name s plain p q was relaid other);
        definitions = definition_now;
        beyond = beyond_now;
      }

  -- the verdicts

  verdict_of : (path : List ℕ) → Contains (package_paths w) path → Verdict
  verdict_of path has =
      let p = package_there w sound before was_right path has in
      record { faulty = false; export_data = new_data p.0 p.1.0 (before p.0.path).export_data }

  abbrev by_path : (path : List ℕ) → Contains (package_paths w) path ⊎ (Contains (package_paths w) path → ⊥) → Verdict
  by_path path (inl has) = verdict_of path has
  by_path path (inr none) = before path

  pub after : Verdicts
  after path = by_path path (listed_or_not (package_paths w) path)

  -- they are right, and as the rename moves the old ones

  same : HaveSameImports w x
  same = same_imports w before d name s plain

  builds_then : (p q : List ℕ) → BuildsOn x p q → BuildsOn w p q
  builds_then p q on = builds_by x w (imports_back w x same) p q on

  abbrev IsRight : List ℕ → Type 0
  IsRight path = IsVerdict x path (after path) × IsMovedVerdict w before after r path

  module _ (p : Package) (was : IsCheckedPackage w before p) (below : (q : List ℕ) → BuildsOn w p.path q → IsRight q) where
    right : AreVerdictsBelow x p.path after
    right q on = (below q (builds_then p.path q on)).0

    moved_below : (q : List ℕ) → BuildsOn w p.path q → IsMovedVerdict w before after r q
    moved_below q on = (below q on).1

    abbrev relaid : (q : Package) × (IsCheckedPackage x after q × IsRelaid r p q)
    relaid = along_imports.relaid own_renames others_stay seen_follow exported no_fault_by w before after d name s plain none p was right moved_below

    abbrev q : Package
    q = relaid.0

    here : IsPackageAfter w before after s p q
    here = along_imports.here own_renames others_stay seen_follow exported no_fault_by w before after d name s plain none p was right moved_below

    no_later : (f : Fault) → IsLaterFault q f → ⊥
    no_later = along_imports.no_later own_renames others_stay seen_follow exported no_fault_by w before after d name s plain none p was right moved_below

    fine : (f : Fault) → IsMemberFault p f → ⊥
    fine f m =
        let later = no_fault_later w sound before was_right p was in
        later f (inr ((λ g h. later g (inl h)), inl m))

    fine_now : (f : Fault) → IsMemberFault q f → ⊥
    fine_now f m = no_later f (inr ((λ g h. no_later g (inl h)), inl m))

    clause : package_name q.files ≡ package_name p.files
    clause =
        ap package_name
        (along_imports.files_now own_renames others_stay seen_follow exported no_fault_by w before after d name s plain none p was right moved_below)
        ∙ name_stays w before d name s plain p was

    abbrev data_was : IsExportData p (before p.path).export_data
    data_was =
        along_imports.old_data own_renames others_stay seen_follow exported no_fault_by w before after d name s plain none p was right moved_below

    new_verdict : Verdict
    new_verdict = record { faulty = false; export_data = new_data p was (before p.path).export_data }

    by_below : IsVerdictBy x after p.path new_verdict
    unfolding new_verdict
    by_below = record {
      has_faults = (
        (λ e. absurd (true≢false (sym e))),
        (λ f. absurd (along_imports.no_fault_now own_renames others_stay seen_follow exported no_fault_by w before after d name s plain none p was right
            moved_below f.0 f.1)),
      );
      has_export_data = λ e. record {
        checked = q;
        is_package =
            along_imports.q_checked own_renames others_stay seen_follow exported no_fault_by w before after d name s plain none p was right moved_below;
        is_export_data =
            is_new_data p was (before p.path).export_data data_was q relaid.1.1 (of_bound p q here.bound) fine fine_now clause;
      };
    }

    is_verdict : IsVerdict x p.path (record { faulty = false; export_data = new_data p was (before p.path).export_data })
    unfolding new_verdict
    is_verdict = follows after right by_below

    is_moved : IsVerdict x p.path (after p.path) → IsMovedVerdict w before after r p.path
    is_moved is =
        along_imports.moved own_renames others_stay seen_follow exported no_fault_by w before after d name s plain none p was right moved_below is

  module _ (path : List ℕ) (has : Contains (package_paths w) path) (below : (q : List ℕ) → BuildsOn w path q → IsRight q) where
    abbrev there : (h : Contains (package_paths w) path) → (p : Package) × (IsCheckedPackage w before p × (p.path ≡ path))
    there h = package_there w sound before was_right path h

    below_there : (h : Contains (package_paths w) path) → (q : List ℕ) → BuildsOn w (there h).0.path q → IsRight q
    below_there h q on = below q (subst (λ k. BuildsOn w k q) (there h).1.1 on)

    by_decision : (o : Contains (package_paths w) path ⊎ (Contains (package_paths w) path → ⊥)) → IsVerdict x path (by_path path o)
    unfolding verdict_of
    by_decision (inr never) = absurd (never has)
    by_decision (inl so) =
        let p = there so in
        subst (λ k. IsVerdict x k (verdict_of path so)) p.1.1 (is_verdict p.0 p.1.0 (below_there so))

    is_right : IsVerdict x path (after path)
    unfolding after
    is_right = by_decision (listed_or_not (package_paths w) path)

    is_moved_so : IsMovedVerdict w before after r path
    is_moved_so =
        let p = there has in
        subst (IsMovedVerdict w before after r) p.1.1
        (is_moved p.0 p.1.0 (below_there has) (subst (λ k. IsVerdict x k (after k)) (sym p.1.1) is_right))

    step : IsRight path
    step = (is_right, is_moved_so)

  all_right : (path : List ℕ) → Contains (package_paths w) path → IsRight path
  all_right path has = along w IsRight step path (before path) (was_right path has) has

  pub are_right : AreVerdicts x after
  are_right path has = (all_right path (subst (λ ps. Contains ps path) (sym same.paths) has)).0

  pub are_moved : (path : List ℕ) → Contains (package_paths w) path → IsMovedVerdict w before after r path
  are_moved path has = (all_right path has).1

pub have_verdicts : RenamesHaveVerdicts
have_verdicts w known d name s plain none = (after w known d name s plain none, are_right w known d name s plain none)
