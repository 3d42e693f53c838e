-- Only identifiers that scopes of the declaring package bind can be lost or captured by a rename of a declaration that is not package-level.
use Rattle.std.specs.Prelude.{ℕ, List}
use Rattle.base_files.specs.Workspace.{Workspace}
use Rattle.base_files.specs.declared.place.Place.{Place}
use Rattle.base_edits.specs.EditSet.{FileChanges}
use Rattle.base_edits.specs.RevisionsOfEdits.{revision_of}
use Rattle.law_rename.specs.Renaming.{HasNoConflictAt}
use Rattle.types_declared.specs.Package.{Package}
use Rattle.workspace_check.specs.Verdicts.{Verdicts}
use Rattle.refs_binding.specs.Identifiers.{BeginsAt}
use Rattle.refactor_conflict.specs.Staying.{StaysAt}
use Rattle.law_renamed_workspaces.specs.LocalRenames.{IsLocalRename}

-- If no identifier of the declaring package that begins at a place has a conflict by the old names, each identifier there stays bound.
abbrev pub LocalConflictsAreOfScopes : Type 0
LocalConflictsAreOfScopes = (w : Workspace) (known : Verdicts) (p : Package) (n : ℕ) (name : List ℕ) (s : FileChanges) →
    IsLocalRename w known p n name s → (place : Place) →
    ((u : ℕ) → BeginsAt p place.path place.offset u → HasNoConflictAt p.layout p.names n name u) → StaysAt w known (revision_of w s) place
