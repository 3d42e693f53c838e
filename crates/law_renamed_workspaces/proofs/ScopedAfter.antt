-- By scopes each package is there after a plain rename, relaid. It is the one that is checked with the verdicts of before, which need not be
-- right of the edited workspace.
use Rattle.std.proofs.Common.{ℕ, ◌≡◌, inl, inr, List, refl, sym, ap, subst, ◌∙◌}
use Rattle.std.specs.Prelude.{Option, Some, Contains}
use Rattle.std.proofs.lemmas.Bool.{true≢false}
use Rattle.base_files.specs.Packages.{package_paths}
use Rattle.base_files.specs.Workspace.{Workspace}
use Rattle.base_edits.specs.EditSet.{FileChanges, edited}
use Rattle.base_edits.specs.RevisionsOfEdits.{revision_of}
use Rattle.workspace_graph.specs.Packages.{PackageImports}
use Rattle.types_declared.specs.Files.{package_name}
use Rattle.types_declared.specs.Package.{Package, ExportData}
use Rattle.workspace_check.specs.Verdicts.{Verdicts, BuildsOn, IsSeenAs, seen, unseen, IsPackageIn}
use Rattle.workspace_check.proofs.Closed.{to_package}
use Rattle.workspace_check.proofs.Members.{cases_contains}
use Rattle.workspace_check.proofs.SameImports.{builds_by}
use Rattle.refs_binding.specs.declared.declaration.Declaration.{Declaration}
use Rattle.refs_binding.specs.Uses.{IsCheckedPackage}
use Rattle.refactor_conflict.specs.ScopedPackages.{AreClauseNames, IsScopedIn, IsClauseName, named, unnamed}
use Rattle.law_renamed_workspaces.specs.Layouts.{AreSoundBelow, IsRelaid}
use Rattle.law_renamed_workspaces.specs.Renames.{IsPlainRename}
use Rattle.law_renamed_workspaces.proofs.Packages.{new_paths, new_trees, same_imports}
use Rattle.law_renamed_workspaces.proofs.Relaid.{relaid_by}
use Rattle.law_renamed_workspaces.proofs.GoodImports.{imports_are_good}
use Rattle.law_renamed_workspaces.proofs.KeptBindings.{scoped_of}
use Rattle.law_renamed_workspaces.proofs.OuterFaults.{new_sources, name_stays}
use Rattle.law_renamed_workspaces.specs.ScopedPackages.{HasMovedTokens, ScopedPackagesAreRelaid}
use Rattle.law_renamed_workspaces.proofs.FaultlessScopes.{IsHeld, data_of, faultless, name_of, name_where, scoped_by}
use Rattle.law_renamed_workspaces.proofs.MovedTokens.{moved_tokens}

module _ (w : Workspace) (known : Verdicts) (d : Declaration) (name : List ℕ) (s : FileChanges) (h : IsPlainRename w known d name s) where
  abbrev v : Workspace
  v = edited s w

  -- the packages below have no faults by the verdicts of before
  pub sound_below : (path : List ℕ) → AreSoundBelow w known known path
  sound_below path = record {
    faultless = λ q on. faultless w known h.rename.right h.rename.sound q (to_package w path q on.imported);
    named = λ q on. refl;
  }

  -- each clause names its package as before

  abbrev clauses : List ℕ → Option (List ℕ)
  clauses = name_of w known h.rename.right h.rename.sound

  package_at : (path : List ℕ) → Contains (package_paths w) path →
      (p : Package) × (IsCheckedPackage w known p × ((p.path ≡ path) × ((known path).export_data.name ≡ package_name p.files)))
  package_at path has =
      let x = data_of w known h.rename.right h.rename.sound path has in
      let same : x.checked.path ≡ path = ap (λ (c : Package). c.path) x.is_package.is_package.is_package in (
        x.checked,
        (
          record {
            of_workspace = subst (Contains (package_paths w)) (sym same) has;
            is_checked = subst (λ q. IsPackageIn w known q x.checked) (sym same) x.is_package;
          },
          (same, x.is_export_data.name),
        ),
      )

  clause_there : (path : List ℕ) (c : IsHeld w known h.rename.right h.rename.sound path) →
      IsClauseName v path (name_where w known h.rename.right h.rename.sound path c)
  clause_there path (inl has) =
      let p = package_at path has in
      let is = p.1.0 in
      let there : Contains (package_paths v) p.0.path =
      subst (λ ps. Contains ps p.0.path) (sym (new_paths w known d name s h)) is.of_workspace in
      let called : (known path).export_data.name ≡ package_name (new_sources s is.is_checked.files) =
      p.1.1.1 ∙ sym (name_stays w known d name s h p.0 is) in
      let own : IsClauseName v p.0.path (Some (package_name (new_sources s is.is_checked.files))) =
      named there (new_trees w known d name s h p.0 is) in
      subst (λ q. IsClauseName v q (Some (known path).export_data.name)) p.1.1.0
      (subst (λ n. IsClauseName v p.0.path (Some n)) (sym called) own)
  clause_there path (inr not) =
      unnamed (λ files has parsed. not (subst (λ ps. Contains ps path) (new_paths w known d name s h) has))

  are_clauses : AreClauseNames v clauses
  are_clauses path = clause_there path (cases_contains (package_paths w) path)

  -- so does each package see what it imports
  module _ (p : Package) (is : IsCheckedPackage w known p) (q : Package) (also : IsCheckedPackage v known q) (path : q.path ≡ p.path) where
    never_unseen : (r : List ℕ) → PackageImports v q.path r → (n : Option (List ℕ)) (i : ExportData) → IsSeenAs v known q.path r n i →
        (c : IsHeld w known h.rename.right h.rename.sound r) → n ≡ name_where w known h.rename.right h.rename.sound r c
    never_unseen r imports _ _ (seen on good) (inl has) = refl
    never_unseen r imports _ _ (seen on good) (inr not) =
        absurd (not (subst (λ ps. Contains ps r) (new_paths w known d name s h) (to_package v q.path r on.imported)))
    never_unseen r imports _ _ (unseen none) (inl has) =
        let same = same_imports w known d name s h in
        let old : PackageImports w p.path r = subst (λ x. PackageImports w x r) path ((same.imports q.path r has).1 imports) in
        absurd (imports_are_good w h.rename.sound known h.rename.right p is r old (λ on.
        let there : BuildsOn v q.path r = subst (λ x. BuildsOn v x r) (sym path) (builds_by w v same p.path r on) in
        true≢false (sym (none there) ∙ faultless w known h.rename.right h.rename.sound r has)))
    never_unseen r imports _ _ (unseen none) (inr not) = refl

    pub scoped_after : IsScopedIn v (scoped_of q)
    scoped_after =
        scoped_by v known q also clauses are_clauses
        (λ r imports n i sees. never_unseen r imports n i sees (cases_contains (package_paths w) r))

  module _ (p : Package) (is : IsCheckedPackage w known p) where
    abbrev checked : (q : Package) × (IsCheckedPackage v known q × IsRelaid (revision_of w s) p q)
    checked = relaid_by w known known d name s h p is (sound_below p.path)

    abbrev q : Package
    q = checked.0

    abbrev pub after : Package
    after = scoped_of q

    pub after_scoped : IsScopedIn v after
    after_scoped = scoped_after p is q checked.1.0 checked.1.1.path

    pub after_relaid : IsRelaid (revision_of w s) p after
    after_relaid =
        let a = checked.1.1 in
        record {
          path = a.path;
          size = a.size;
          layout = a.layout;
          trees = a.trees;
          paths = a.paths;
          tokens = a.tokens;
          other_tokens = a.other_tokens;
          names = a.names;
          other_names = a.other_names;
        }

    pub after_moved : HasMovedTokens (revision_of w s) p after
    after_moved =
        let m = moved_tokens w known known d name s h p q is checked.1.0 checked.1.1 in
        record { tokens = m.tokens; names = m.names }

pub scoped_relaid : ScopedPackagesAreRelaid
scoped_relaid w known d name s h p is = (
  after w known d name s h p is,
  (after_scoped w known d name s h p is, (after_relaid w known d name s h p is, after_moved w known d name s h p is)),
)
