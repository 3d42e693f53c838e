-- The worlds by which the files of a package are judged.
use Rattle.std.specs.Prelude.{ℕ, ◌≡◌, Some, slice_get}
use Rattle.go_ast.specs.SourceFile.{SourceFile}
use Rattle.types_expr.specs.World.{World}
use Rattle.types_declared.specs.Package.{Package}
use Rattle.types_info.specs.Worlds.{IsWorldOf}
use Rattle.base_files.specs.Workspace.{Workspace}
use Rattle.workspace_check.specs.Verdicts.{Verdicts}
use Rattle.refs_binding.specs.Uses.{IsCheckedPackage}

-- Each file of the package has a world.
abbrev pub HaveWorlds : Package → Type 0
HaveWorlds p = (file : ℕ) (s : SourceFile) → slice_get p.files file ≡ Some s → (v : World) × IsWorldOf p file s v

-- Each file of each package of the workspace has a world.
abbrev pub HaveAllWorlds : Workspace → Verdicts → Type 0
HaveAllWorlds w known = (p : Package) → IsCheckedPackage w known p → HaveWorlds p
