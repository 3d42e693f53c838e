-- The faults of types in a package.
use Rattle.std.specs.Prelude.{◌≡◌, Some, slice_get, Contains}
use Rattle.base_files.specs.declared.fault_kind.FaultKind.TheVariants as kind
use Rattle.types_declared.specs.declared.fault.Fault.{Fault}
use Rattle.go_ast.specs.SourceFile.{SourceFile}
use Rattle.types_expr.specs.World.{World}
use Rattle.types_stmt.specs.Declarations.{check_file}
use Rattle.types_declared.specs.Package.{Package}
use Rattle.types_info.specs.Worlds.{IsWorldOf, is_init}

-- f is a fault that checking some file of the package in its world finds
pub record IsTypeFault (p : Package) (f : Fault) : Type 0 where
  pub source : SourceFile
  pub in_file : slice_get p.files f.file ≡ Some source
  pub world : World
  pub judged_by : IsWorldOf p f.file source world
  pub found : Contains (check_file world (is_init source) source.tree).faults f.token
  pub kind : f.kind ≡ kind.«Type»
