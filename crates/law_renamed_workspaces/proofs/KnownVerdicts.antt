-- What is known of packages is right after the rename of a local declaration, by the laws of all plain renames.
use Rattle.std.proofs.Common.{ℕ, ◌≡◌, inl, inr, List, ap, ◌∙◌}
use Rattle.std.specs.Prelude.{Some, slice_get}
use Rattle.base_edits.specs.EditSet.{FileChanges, edited}
use Rattle.base_files.specs.Packages.{package_paths}
use Rattle.base_files.specs.Workspace.{Workspace}
use Rattle.workspace_check.specs.Verdicts.{Verdicts}
use Rattle.workspace_check.proofs.PackageFiles.{at_rank}
use Rattle.refs_binding.specs.declared.declaration.Declaration.TheVariants.{Declared}
use Rattle.law_renamed_workspaces.proofs.Packages.{same_imports}
use Rattle.law_renamed_workspaces.specs.KnownVerdicts.{IsKeptRename, IsUnseen}
use Rattle.law_renamed_workspaces.proofs.KnownVerdictsLaws.{unseen_data, unseen_verdicts}
use Rattle.law_renamed_workspaces.proofs.Harmless.{declared_harmless}
use Rattle.law_renamed_workspaces.specs.KnownAfter.{ExportDataStay, IsKeptLocalRename, KnownVerdictsStay, LocalRenamesHaveVerdicts, LocalRenamesKeepKnown}
use Rattle.law_renamed_workspaces.specs.KnownAfter.{LocalRenamesKeepVerdicts}

module _ (w : Workspace) (before : Verdicts) (path : List ℕ) (n : ℕ) (name : List ℕ) (s : FileChanges) (h : IsKeptLocalRename w before path n name s) where
  kept : IsKeptRename w before (Declared path n) name s
  kept = record { plain = h.plain; kept = declared_harmless w before path n name s h.plain h.kept }

  -- other packages don't see a declaration that is not package-level
  hidden : (q : List ℕ) → IsUnseen w before (Declared path n) h.plain.rename.set name q
  hidden q = inr (λ p is e. inl (h.local p is e))

pub data_stay : ExportDataStay
unfolding kept
data_stay w before after path n name s h right o has =
    unseen_data w before after (Declared path n) name s (kept w before path n name s h) right o has (hidden w before path n name s h o)

pub verdicts_stay : KnownVerdictsStay
unfolding kept
verdicts_stay w before after path n name s h right o has one k =
    unseen_verdicts w before after (Declared path n) name s (kept w before path n name s h) right o has (hidden w before path n name s h o) one k

pub keep_known : LocalRenamesHaveVerdicts → LocalRenamesKeepKnown
keep_known have w before path n name s h o has one k =
    let after = have w before path n name s h in verdicts_stay w before after.0 path n name s h after.1 o has one k

pub keep_verdicts : LocalRenamesKeepKnown → LocalRenamesKeepVerdicts
keep_verdicts keep w before path n name s h known right number o one at listed =
    let same : package_paths w ≡ package_paths (edited s w) = (same_imports w before (Declared path n) name s h.plain).paths in
    let was : slice_get (package_paths w) number ≡ Some o = ap (λ ps. slice_get ps number) same ∙ at in
    keep w before path n name s h o (at_rank (package_paths w) number o was) one (right number o one was listed)
