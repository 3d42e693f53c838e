-- No rename moves two declarations to one place.
use Rattle.std.specs.Prelude.{ℕ, ◌≡◌, List}
use Rattle.base_files.specs.Workspace.{Workspace}
use Rattle.base_files.specs.declared.place.Place.{Place}
use Rattle.base_edits.specs.EditSet.{FileChanges}
use Rattle.base_edits.specs.Revisions.{Revision}
use Rattle.base_edits.specs.RevisionsOfEdits.{revision_of}
use Rattle.workspace_check.specs.Verdicts.{Verdicts}
use Rattle.refs_binding.specs.declared.declaration.Declaration.{Declaration}
use Rattle.refs_binding.specs.DeclaringPlaces.{IsDeclaredAt}
use Rattle.refs_binding.specs.Uses.{IsCheckedPackage}
use Rattle.law_renamed_workspaces.specs.Renames.{IsRename}

-- Declarations that are declared at one place are one declaration.
abbrev pub DeclarationsStandApart : Type 0
DeclarationsStandApart = (w : Workspace) (known : Verdicts) (c d : Declaration) (place : Place) → IsDeclaredAt (IsCheckedPackage w known) c place →
    IsDeclaredAt (IsCheckedPackage w known) d place → c ≡ d

-- The change moves no two declarations to one place.
abbrev pub MoveApart : Workspace → Verdicts → Revision → Type 0
MoveApart w known r = (c d : Declaration) (a b : Place) → IsDeclaredAt (IsCheckedPackage w known) c a → IsDeclaredAt (IsCheckedPackage w known) d b →
    r.moved a ≡ r.moved b → c ≡ d

-- No rename moves two declarations to one place.
abbrev pub DeclarationsMoveApart : Type 0
DeclarationsMoveApart = (w : Workspace) (known : Verdicts) (d : Declaration) (name : List ℕ) (s : FileChanges) → IsRename w known d name s →
    MoveApart w known (revision_of w s)
