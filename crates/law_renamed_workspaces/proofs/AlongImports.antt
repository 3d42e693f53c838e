-- Along the imports no package gets a fault in a harmless rename, and its export data change by one name.
use Rattle.std.proofs.Common.{ℕ, ◌≡◌, inl, inr, false, List, [], map, ap, refl, sym, subst, ◌∙◌}
use Rattle.std.specs.Prelude.{Contains}
use Rattle.std.specs.List.Sorted.{IsStrictlySortedBy}
use Rattle.std.proofs.lemmas.Bool.{true≢false}
use Rattle.base_lemmas.proofs.Elements.{nothing_in}
use Rattle.base_edits.specs.EditSet.{FileChanges, edited}
use Rattle.base_edits.specs.RevisionsOfEdits.{revision_of}
use Rattle.base_edits.specs.Revisions.{Revision}
use Rattle.base_files.specs.Packages.{package_paths}
use Rattle.base_files.specs.Workspace.{Workspace}
use Rattle.go_ast.specs.SourceFile.{source_of}
use Rattle.types_declared.specs.declared.fault.Fault.{Fault}
use Rattle.types_declared.specs.declared.states.ImportState.{ImportState}
use Rattle.types_declared.specs.Files.{package_name}
use Rattle.types_declared.specs.Package.{Package}
use Rattle.types_resolve.specs.Stages.{IsOuterFault}
use Rattle.types_check.specs.Check.{IsLaterFault}
use Rattle.types_check.specs.Exports.{IsExportData}
use Rattle.types_declared.specs.Stage.{FirstOf}
use Rattle.workspace_graph.specs.Packages.{IsInClosure, itself, through}
use Rattle.workspace_check.specs.declared.fault.FileFault.{FileFault}
use Rattle.workspace_check.specs.Earlier.{HaveSameImports}
use Rattle.workspace_check.specs.FaultLists.{IsFaultOfSome, ListsFaults}
use Rattle.workspace_check.specs.Faults.{fault_cmp, placed_in}
use Rattle.workspace_check.specs.Verdicts.{Verdicts, AreVerdicts, AreVerdictsBelow, BuildsOn, IsStateOf}
use Rattle.workspace_check.specs.Verdicts.{is_missing, is_on_cycle, is_faulty, is_good, AreStates, IsReadFault}
use Rattle.workspace_check.specs.Verdicts.{IsPackageIn, IsFaultBehindOuter, IsFaultBy, IsVerdictBy, IsVerdict, follows}
use Rattle.workspace_check.proofs.Closed.{from_package, to_package}
use Rattle.workspace_check.proofs.FaultFiles.{in_outer, some_source}
use Rattle.workspace_check.proofs.OneList.{no_fault, is_faultless}
use Rattle.workspace_check.proofs.OnePackage.{one_checked, one_sources, layout_formed, files_in_order}
use Rattle.workspace_check.proofs.OneVerdict.{one_verdict, right_below, verdict_by, without_faults}
use Rattle.workspace_check.proofs.SameImports.{imports_back, builds_by, closed_by}
use Rattle.workspace_check.proofs.Unread.{none_unread}
use Rattle.refs_binding.specs.declared.declaration.Declaration.{Declaration}
use Rattle.refs_binding.specs.Uses.{IsCheckedPackage}
use Rattle.refs_lookup.proofs.OnePlace.{same_files}
use Rattle.law_changed_types.proofs.Alike.{of_bound}
use Rattle.law_renamed_workspaces.specs.Harmless.{IsHarmless}
use Rattle.law_renamed_workspaces.specs.Layouts.{AreSoundBelow, IsRelaid}
use Rattle.law_renamed_workspaces.specs.MovedExports.{AreMovedBelow}
use Rattle.law_renamed_workspaces.specs.Renames.{IsPlainRename}
use Rattle.law_renamed_workspaces.proofs.Packages.{package_there, new_parts, new_trees, to_imports, same_imports}
use Rattle.law_renamed_workspaces.proofs.Relaid.{relaid_by}
use Rattle.law_renamed_workspaces.specs.Scopes.{OwnRenamesAreRenames, OtherScopesStay}
use Rattle.law_renamed_workspaces.proofs.BoundAlike.{alike_below}
use Rattle.law_renamed_workspaces.specs.MembersMoved.{AreSeenAfter, SeenDefinitionsFollow, ExportedDefinitionsFollow}
use Rattle.law_renamed_workspaces.specs.VerdictsStay.{IsPackageAfter, IsMovedVerdict, VerdictsStayAbove, VerdictsStay, PlainWorkspaceStaysSound}
use Rattle.law_renamed_workspaces.proofs.DeclaredNames.{level_names}
use Rattle.law_renamed_workspaces.proofs.ExportsMove.{exports_move}
use Rattle.law_renamed_workspaces.proofs.NoFaults.{NoFaultComesBelow}
use Rattle.law_renamed_workspaces.proofs.OuterFaults.{new_sources, name_stays, no_outer_fault}

-- The verdicts on all packages that the package at the path builds on have moved.
abbrev HaveMovedBelow : Workspace → (before after : Verdicts) → Revision → List ℕ → Type 0
HaveMovedBelow w before after r path = (q : List ℕ) → BuildsOn w path q → IsMovedVerdict w before after r q

module _ (own_renames : OwnRenamesAreRenames) (others_stay : OtherScopesStay) (seen_follow : SeenDefinitionsFollow)
    (exported_follow : ExportedDefinitionsFollow) (no_fault_comes : NoFaultComesBelow) (w : Workspace) (before after : Verdicts) (d : Declaration)
    (name : List ℕ) (s : FileChanges) (plain : IsPlainRename w before d name s) (none : IsHarmless w before (revision_of w s)) where
  abbrev x : Workspace
  x = edited s w

  abbrev sound : ListsFaults w []
  sound = plain.rename.sound

  same : HaveSameImports w x
  same = same_imports w before d name s plain

  same_back : HaveSameImports x w
  same_back = imports_back w x same

  module _ (p : Package) (was : IsCheckedPackage w before p) (right : AreVerdictsBelow (edited s w) p.path after)
      (below : HaveMovedBelow w before after (revision_of w s) p.path) where
    sound_below : AreSoundBelow w before after p.path
    sound_below = record { faultless = λ q on. (below q on).sound; named = λ q on. (below q on).name }

    pub relaid : (q : Package) × (IsCheckedPackage x after q × IsRelaid (revision_of w s) p q)
    relaid = relaid_by w before after d name s plain p was sound_below

    abbrev pub q : Package
    q = relaid.0

    moved_below : AreMovedBelow w before after p.path
    moved_below = record {
      sound = sound_below;
      moved = λ o on. (let m = below o on in
          record { name = m.name; exported = m.exported; underlying = λ rank. (m.definitions rank).underlying });
    }

    known_faultless : (o : List ℕ) → BuildsOn w p.path o → (before o).faulty ≡ false
    known_faultless o on =
        let has = to_package w p.path o on.imported in
        (one_verdict w o (before o) (sound.known o) (plain.rename.right o has) (sound.right o has)).faulty ∙ is_faultless w sound o has

    seen : AreSeenAfter (IsCheckedPackage w before) (revision_of w s) p q
    seen =
        seen_follow w x before after (revision_of w s) p q was relaid.1.0 relaid.1.1.path known_faultless
        (record {
          same = λ o. (builds_by w x same p.path o, builds_by x w same_back p.path o);
          sound = sound_below.faultless;
        })
        (λ o on. (below o on).definitions)

    pub here : IsPackageAfter w before after s p q
    here = record {
      was = was;
      is = relaid.1.0;
      relaid = relaid.1.1;
      bound = alike_below w before after d name s plain none.none_lost p q right was relaid.1.0 relaid.1.1 moved_below;
      seen = seen;
    }

    -- faults

    state_was : (o : List ℕ) (state : ImportState) → IsStateOf x after p.path o state → IsStateOf w sound.known p.path o state
    state_was o _ (is_missing missing) = is_missing (λ has. missing (subst (λ ps. Contains ps o) same.paths has))
    state_was o _ (is_on_cycle back) = is_on_cycle (closed_by x w same_back o p.path back)
    state_was o _ (is_faulty on is) = absurd (true≢false (sym is ∙ sound_below.faultless o (builds_by x w same_back p.path o on)))
    state_was o _ (is_good on is) =
        let then = builds_by x w same_back p.path o on in is_good then (is_faultless w sound o (to_package w p.path o then.imported))

    states_were : (state : List ℕ → ImportState) → AreStates x after p.path state → AreStates w sound.known p.path state
    states_were state are o i = state_was o (state o) (are o (to_imports w before d name s plain p was o i))

    was_outer_fine : (state : List ℕ → ImportState) → AreStates x after p.path state → (f : Fault) →
        IsOuterFault state (map source_of was.is_checked.files) f → ⊥
    was_outer_fine state are f o =
        let source = some_source (map source_of was.is_checked.files) f (in_outer state (map source_of was.is_checked.files) f o) in
        no_fault w sound p.path was.of_workspace (placed_in source.0 f)
        (inr (record {
          files = was.is_checked.files;
          parsed = was.is_checked.parsed;
          state = state;
          are_states = states_were state are;
          fault = f;
          is_fault = inl o;
          source = source.0;
          in_file = source.1;
          at = refl;
        }))

    pub no_later : (f : Fault) → IsLaterFault q f → ⊥
    no_later f l =
        no_fault_comes w before after d name s plain none p q (subst (λ path. AreVerdictsBelow x path after) (sym relaid.1.1.path) right) here f l

    no_read : (f : FileFault) → IsReadFault x after p.path f → ⊥
    no_read f r = by_stage r.is_fault
      where
        sources : map source_of r.files ≡ new_sources s was.is_checked.files
        sources = one_sources r.parsed (new_trees w before d name s plain p was)

        by_stage : FirstOf (IsOuterFault r.state (map source_of r.files)) (IsFaultBehindOuter x after p.path) r.fault → ⊥
        by_stage (inl o) =
            no_outer_fault w before d name s plain p was r.state (was_outer_fine r.state r.are_states) r.fault
            (subst (λ fs. IsOuterFault r.state fs r.fault) sources o)
        by_stage (inr later) =
            let inner = later.1 in
            let checked : IsCheckedPackage x after q = relaid.1.0 in
            let one : inner.checked ≡ q =
            one_checked x after p.path inner.checked q inner.is_package
            (subst (λ path. IsPackageIn x after path q) relaid.1.1.path checked.is_checked) in
            no_later r.fault
            (subst (λ c. IsLaterFault c r.fault) one inner.is_fault)

    pub no_fault_now : (f : FileFault) → IsFaultBy x after p.path f → ⊥
    no_fault_now f (inl u) = none_unread x p.path (map (new_parts s) was.is_checked.files) (new_trees w before d name s plain p was) f u
    no_fault_now f (inr r) = no_read f r

    -- export data

    pub old_data : IsExportData p (before p.path).export_data
    old_data =
        let b = verdict_by w p.path before (before p.path) (right_below w before plain.rename.right p.path) (plain.rename.right p.path was.of_workspace) in
        let known =
        one_verdict w p.path (before p.path) (sound.known p.path) (plain.rename.right p.path was.of_workspace) (sound.right p.path was.of_workspace) in
        let has = b.has_export_data (known.faulty ∙ is_faultless w sound p.path was.of_workspace) in
        subst (λ c. IsExportData c (before p.path).export_data) (one_checked w before p.path has.checked p has.is_package was.is_checked) has.is_export_data

    pub q_checked : IsPackageIn x after p.path q
    q_checked = subst (λ path. IsPackageIn x after path q) relaid.1.1.path relaid.1.0.is_checked

    pub files_now : q.files ≡ new_sources s was.is_checked.files
    files_now = same_files x after p.path q q_checked ∙ one_sources q_checked.parsed (new_trees w before d name s plain p was)

    -- what follows of a right verdict on the package itself
    module _ (is : IsVerdict x p.path (after p.path)) where
      by : IsVerdictBy x after p.path (after p.path)
      by = verdict_by x p.path after (after p.path) right is

      faultless : (after p.path).faulty ≡ false
      faultless = without_faults x after p.path (after p.path) by no_fault_now (after p.path).faulty refl

      new_data : IsExportData q (after p.path).export_data
      new_data =
          let has = by.has_export_data faultless in
          subst (λ c. IsExportData c (after p.path).export_data) (one_checked x after p.path has.checked q has.is_package q_checked) has.is_export_data

      pub moved : IsMovedVerdict w before after (revision_of w s) p.path
      moved = record {
        sound = faultless;
        name = new_data.name ∙ ap package_name files_now ∙ name_stays w before d name s plain p was ∙ sym old_data.name;
        exported =
            exports_move p q (of_bound p q here.bound) (layout_formed x after p.path q q_checked) (files_in_order x after p.path q q_checked)
            (before p.path).export_data (after p.path).export_data old_data new_data name
            (level_names own_renames others_stay w before d name s plain p q was relaid.1.1);
        definitions =
            exported_follow w before (revision_of w s) p q was relaid.1.1 here.bound seen (before p.path).export_data (after p.path).export_data old_data
            new_data;
      }

  pub stays_above : AreVerdicts x after → (path : List ℕ) → Contains (package_paths w) path → HaveMovedBelow w before after (revision_of w s) path →
      IsMovedVerdict w before after (revision_of w s) path
  stays_above right path has below =
      let p = package_there w sound before plain.rename.right path has in
      let has_now : Contains (package_paths x) p.0.path = subst (λ ps. Contains ps p.0.path) same.paths p.1.0.of_workspace in
      subst (IsMovedVerdict w before after (revision_of w s)) p.1.1
      (moved p.0 p.1.0 (right_below x after right p.0.path) (subst (HaveMovedBelow w before after (revision_of w s)) (sym p.1.1) below)
      (right p.0.path has_now))

pub verdicts_stay_above : OwnRenamesAreRenames → OtherScopesStay → SeenDefinitionsFollow → ExportedDefinitionsFollow → NoFaultComesBelow → VerdictsStayAbove
verdicts_stay_above own_renames others_stay seen_follow exported_follow no_fault_comes w before after d name s plain right none =
    stays_above own_renames others_stay seen_follow exported_follow no_fault_comes w before after d name s plain none right

-- along the imports
pub along : (w : Workspace) (P : List ℕ → Type 0) → ((path : List ℕ) → Contains (package_paths w) path → ((q : List ℕ) → BuildsOn w path q → P q) → P path) →
    (path : List ℕ) (v : _) → IsVerdict w path v → Contains (package_paths w) path → P path
along w P step path v (follows known below told) has =
    step path has (λ q on. along w P step q (known q) (below q on) (to_package w path q on.imported))

pub verdicts_stay : VerdictsStayAbove → VerdictsStay
verdicts_stay above w before after d name s plain right none path has =
    along w (IsMovedVerdict w before after (revision_of w s))
    (λ p there below. above w before after d name s plain right none p there below) path (before path) (plain.rename.right path has) has

empty_in_order : IsStrictlySortedBy fault_cmp []
unfolding IsStrictlySortedBy
empty_in_order = tt

-- so the workspace has no fault
pub plain_workspace_stays_sound : VerdictsStay → PlainWorkspaceStaysSound
plain_workspace_stays_sound stay w before after d name s plain right none = record {
  known = after;
  right = right;
  listed = record { in_order = empty_in_order; each = λ f. ((λ c. absurd (nothing_in f c)), (λ h. absurd (no_fault_left f h))) };
}
  where
    no_fault_left : (f : FileFault) → IsFaultOfSome (edited s w) after f → ⊥
    no_fault_left f h =
        let x = edited s w in
        let paths = same_imports w before d name s plain in
        let there : Contains (package_paths w) h.path = subst (λ ps. Contains ps h.path) (sym paths.paths) h.is_package in
        let moved = stay w before after d name s plain right none h.path there in
        let told = verdict_by x h.path after (after h.path) (right_below x after right h.path) (right h.path h.is_package) in
        true≢false (sym (told.has_faults.1 (f, h.is_fault)) ∙ moved.sound)
