-- Plain renames of declarations of the scopes of a package.
use Rattle.std.specs.Prelude.{ℕ, List}
use Rattle.base_files.specs.Workspace.{Workspace}
use Rattle.base_edits.specs.EditSet.{FileChanges}
use Rattle.types_declared.specs.Package.{Package}
use Rattle.workspace_check.specs.Verdicts.{Verdicts}
use Rattle.refs_binding.specs.declared.declaration.Declaration.TheVariants.{Declared}
use Rattle.refs_binding.specs.Uses.{IsCheckedPackage}
use Rattle.law_renamed_workspaces.specs.Renames.{IsPlainRename}

-- A plain rename of the declaration `n` of the scopes of the package `p`: a package-level declaration, a local variable, a parameter, a
-- receiver, or the name of an import.
pub record IsRenameIn (w : Workspace) (known : Verdicts) (p : Package) (n : ℕ) (name : List ℕ) (s : FileChanges) : Type 0 where
  pub rename : IsPlainRename w known (Declared p.path n) name s
  pub is_package : IsCheckedPackage w known p

-- The statement holds of each such rename.
abbrev pub OfRenamesIn : ((w : Workspace) → Verdicts → Package → ℕ → List ℕ → FileChanges → Type 0) → Type 0
OfRenamesIn K = (w : Workspace) (known : Verdicts) (p : Package) (n : ℕ) (name : List ℕ) (s : FileChanges) → IsRenameIn w known p n name s →
    K w known p n name s
