-- The verdicts on the packages of a workspace after a harmless rename.
use Rattle.std.specs.Prelude.{ℕ, List}
use Rattle.base_edits.specs.EditSet.{FileChanges, edited}
use Rattle.base_edits.specs.RevisionsOfEdits.{revision_of}
use Rattle.base_files.specs.Workspace.{Workspace}
use Rattle.workspace_check.specs.Verdicts.{Verdicts, AreVerdicts}
use Rattle.refs_binding.specs.declared.declaration.Declaration.{Declaration}
use Rattle.law_renamed_workspaces.specs.Harmless.{IsHarmless}
use Rattle.law_renamed_workspaces.specs.Renames.{IsPlainRename}

-- After a plain rename that is harmless there are right verdicts on all packages of the edited workspace.
abbrev pub RenamesHaveVerdicts : Type 0
RenamesHaveVerdicts = (w : Workspace) (known : Verdicts) (d : Declaration) (name : List ℕ) (s : FileChanges) → IsPlainRename w known d name s →
    IsHarmless w known (revision_of w s) → (after : Verdicts) × AreVerdicts (edited s w) after
