-- What the files of a package are judged by after a harmless rename: the same, as far as it is asked.
use Rattle.std.specs.Prelude.{ℕ, ◌≡◌, List, Some, slice_get}
use Rattle.base_files.specs.Workspace.{Workspace}
use Rattle.base_edits.specs.EditSet.{FileChanges}
use Rattle.base_edits.specs.RevisionsOfEdits.{revision_of}
use Rattle.go_ast.specs.SourceFile.{SourceFile}
use Rattle.types_expr.specs.World.{World}
use Rattle.types_stmt.specs.Declarations.{check_file}
use Rattle.types_declared.specs.Package.{Package}
use Rattle.types_info.specs.Worlds.{IsWorldOf, is_init}
use Rattle.workspace_check.specs.Verdicts.{Verdicts}
use Rattle.refs_binding.specs.declared.declaration.Declaration.{Declaration}
use Rattle.law_changed_types.specs.MemberUses.{IsAlike}
use Rattle.law_renamed_workspaces.specs.Harmless.{IsHarmless}
use Rattle.law_renamed_workspaces.specs.Renames.{IsPlainRename}
use Rattle.law_renamed_workspaces.specs.VerdictsStay.{IsPackageAfter}

-- A plain rename is harmless. `q` is the package that `p` has become. Then the world of each file answers as before whatever judging the file
-- asks.
abbrev pub WorldsStay : Type 0
WorldsStay = (w : Workspace) (before after : Verdicts) (d : Declaration) (name : List ℕ) (s : FileChanges) → IsPlainRename w before d name s →
    IsHarmless w before (revision_of w s) → (p q : Package) → IsPackageAfter w before after s p q → (file : ℕ) (f g : SourceFile) (v x : World) →
    slice_get p.files file ≡ Some f → slice_get q.files file ≡ Some g → IsWorldOf p file f v → IsWorldOf q file g x →
    IsAlike (check_file v (is_init f) f.tree).uses v x
