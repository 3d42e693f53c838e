-- A plain rename of fields or methods.
use Rattle.std.specs.Prelude.{ℕ, ◌≡◌, List}
use Rattle.base_files.specs.Workspace.{Workspace}
use Rattle.base_edits.specs.EditSet.{FileChanges}
use Rattle.workspace_check.specs.Verdicts.{Verdicts}
use Rattle.refs_binding.specs.declared.declaration.Declaration.{Declaration}
use Rattle.law_renamed_workspaces.specs.Renames.{IsMember, IsPlainRename}

-- A plain rename of a field or method `d`, and of those of the set with it, to `name`, by the edits `s`.
pub record IsMemberRename (w : Workspace) (known : Verdicts) (d : Declaration) (set : List Declaration) (name : List ℕ) (s : FileChanges) : Type 0 where
  pub rename : IsPlainRename w known d name s
  pub of_set : rename.rename.set ≡ set
  pub member : IsMember d

-- The statement holds of each such rename.
abbrev pub OfMemberRenames : ((w : Workspace) → Verdicts → Declaration → (set : List Declaration) → List ℕ → FileChanges → Type 0) → Type 0
OfMemberRenames K = (w : Workspace) (known : Verdicts) (d : Declaration) (set : List Declaration) (name : List ℕ) (s : FileChanges) →
    IsMemberRename w known d set name s → K w known d set name s
