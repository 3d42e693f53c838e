-- The object of each package is the old one where an import without a name is renamed: the rename is done in two steps.
use Rattle.std.proofs.Common.{ℕ, ◌≡◌, List, refl, ap, sym, subst, ◌∙◌}
use Rattle.base_edits.specs.EditSet.{FileChanges, edited}
use Rattle.base_edits.specs.RevisionsOfEdits.{revision_of}
use Rattle.base_files.specs.Workspace.{Workspace}
use Rattle.go_scope.specs.declared.model.Block.TheVariants.{File}
use Rattle.go_scope.specs.declared.model.Block.TheVariants.{Package as PackageBlock}
use Rattle.go_scope.specs.Bindings.{IsPackageLevel, block_of}
use Rattle.types_declared.specs.Package.{Package}
use Rattle.workspace_check.specs.Verdicts.{AreVerdicts, Verdicts}
use Rattle.refs_binding.specs.declared.declaration.Declaration.TheVariants.{Declared}
use Rattle.refs_binding.specs.Uses.{IsCheckedPackage}
use Rattle.refactor_preserve.specs.Preserved.{Preserves}
use Rattle.law_rename.specs.Gained.{Gain}
use Rattle.law_agreement.proofs.Laws.{scope_loses_none}
use Rattle.law_renamed_workspaces.specs.Harmless.{IsHarmless}
use Rattle.law_renamed_workspaces.specs.RenamedData.{IsAlone}
use Rattle.law_renamed_workspaces.proofs.RenamedSets.{own_alone}
use Rattle.law_renamed_workspaces.proofs.Harmless.{declared_harmless}
use Rattle.law_gained_names.specs.GainedName.{gained_by}
use Rattle.law_objects.specs.Objects.{HasObjectText, IsUnprinted, UnprintedRenamesKeepObjects}
use Rattle.law_objects.proofs.Laws.{unprinted}
use Rattle.law_gained_names.specs.UnnamedRenames.{IsNamedFirst, UnnamedRenamesHaveSteps}
use Rattle.law_gained_names.proofs.GainingRenamesLaws.{unnamed_renames_have_steps}
use Rattle.law_objects.specs.KeptObjects.{GainedNamesKeepObjects, UnnamedRenamesKeepObjects}
use Rattle.law_objects.proofs.ObjectsAfter.{gained_names_keep_objects}
use Rattle.law_objects.proofs.OwnNames.{import_role}

module _ (w : Workspace) (before : Verdicts) (p : Package) (n : ℕ) (name : List ℕ) (s : FileChanges) (f : IsNamedFirst w before p n name s) where
  abbrev i : Gain
  i = gained_by f.number p f.inside f.workspace.gains

  no_level : IsPackageLevel f.inside.layout n → ⊥
  no_level level = let block : File i.rank ≡ PackageBlock = sym (ap block_of (import_role i n p f.inside f.gained)) ∙ level in cc

  -- the second step renames the name of an import
  second_unprinted : IsUnprinted (IsCheckedPackage (edited f.naming w) before) (Declared f.inside.path n)
  second_unprinted = record { inside = f.inside; is_package = f.renames.is_package; of_path = refl; holds = no_level }

  second_alone : IsAlone (Declared f.inside.path n) f.renames.rename.rename.set
  second_alone e in_set =
      own_alone (IsCheckedPackage (edited f.naming w) before) (Declared f.inside.path n) f.renames.rename.rename.set f.renames.rename.rename.is_set (λ m. m) e
      in_set

  second_harmless : Preserves (edited f.naming w) (revision_of (edited f.naming w) f.renaming) →
      IsHarmless (edited f.naming w) before (revision_of (edited f.naming w) f.renaming)
  second_harmless keeps =
      declared_harmless (edited f.naming w) before f.inside.path n name f.renaming f.renames.rename
      (scope_loses_none (edited f.naming w) before f.inside.path n name f.renaming f.renames.rename keeps)

by_laws : UnnamedRenamesHaveSteps → GainedNamesKeepObjects → UnprintedRenamesKeepObjects → UnnamedRenamesKeepObjects
by_laws steps first second w before after p n name s h right keeps path text t =
    let both = steps w before p n name s h in
    let f = both.0 in
    let between = f.renames.rename.rename in
    let named = first w (edited f.naming w) h.rename.sound between.sound before h.rename.right between.right f.number p f.inside f.workspace path text t in
    subst (λ x. HasObjectText x after path text) (sym f.files)
    (second (edited f.naming w) before after (Declared f.inside.path n) name f.renaming f.renames.rename (subst (λ x. AreVerdicts x after) f.files right)
    (second_harmless w before p n name s f (both.1.0 keeps)) (second_alone w before p n name s f) (second_unprinted w before p n name s f) path text named)

pub unnamed_renames_keep_objects : UnnamedRenamesKeepObjects
unnamed_renames_keep_objects = by_laws unnamed_renames_have_steps gained_names_keep_objects unprinted
