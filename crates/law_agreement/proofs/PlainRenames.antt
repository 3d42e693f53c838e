-- A plain rename that is harmless preserves bindings, and one of a local declaration keeps all that is known.
use Rattle.std.proofs.Common.{ℕ, List}
use Rattle.base_edits.specs.EditSet.{FileChanges, edited}
use Rattle.base_edits.specs.RevisionsOfEdits.{revision_of}
use Rattle.base_files.specs.Workspace.{Workspace}
use Rattle.workspace_check.specs.Verdicts.{Verdicts, AreVerdicts}
use Rattle.refs_binding.specs.declared.declaration.Declaration.{Declaration}
use Rattle.refs_binding.specs.declared.declaration.Declaration.TheVariants.{Declared}
use Rattle.refactor_preserve.specs.Preserved.{Preserves}
use Rattle.law_renamed_workspaces.specs.Harmless.{IsHarmless}
use Rattle.law_renamed_workspaces.specs.Renames.{IsPlainRename}
use Rattle.law_renamed_workspaces.specs.KnownAfter.{LocalRenamesHaveVerdicts, LocalRenamesKeepKnown, LocalRenamesKeepVerdicts}
use Rattle.law_renamed_workspaces.proofs.KnownVerdicts.{keep_known, keep_verdicts}
use Rattle.law_agreement.specs.Agreement.{PlainNoneLostPreserves}
use Rattle.law_agreement.proofs.Moving.{checked_none_lost}
use Rattle.law_renamed_workspaces.proofs.Harmless.{declared_harmless}
use Rattle.law_renamed_workspaces.proofs.NewVerdicts.{have_verdicts}

-- by the verdicts on the edited workspace, whatever they are
preserves_by : (w : Workspace) (known : Verdicts) (d : Declaration) (name : List ℕ) (s : FileChanges) → IsPlainRename w known d name s →
    IsHarmless w known (revision_of w s) → (after : Verdicts) × AreVerdicts (edited s w) after → Preserves w (revision_of w s)
preserves_by w known d name s plain none (after, right) = checked_none_lost w known after d name s plain right none

pub preserves : PlainNoneLostPreserves
preserves w known d name s plain none = preserves_by w known d name s plain none (have_verdicts w known d name s plain none)

pub have_local : LocalRenamesHaveVerdicts
have_local w before path n name s h =
    have_verdicts w before (Declared path n) name s h.plain (declared_harmless w before path n name s h.plain h.kept)

pub keep_one : LocalRenamesKeepKnown
keep_one = keep_known have_local

pub keep_all : LocalRenamesKeepVerdicts
keep_all = keep_verdicts keep_one
