-- The results of checking the types of a package's files.
use Rattle.std.specs.Prelude.{ℕ, ◌≡◌, List, Some, slice_get, Contains}
use Rattle.base_files.specs.declared.fault_kind.FaultKind.TheVariants as kind
use Rattle.types_declared.specs.declared.fault.Fault.{Fault}
use Rattle.go_ast.specs.SourceFile.{SourceFile}
use Rattle.types_expr.specs.World.{World}
use Rattle.types_stmt.specs.Checked.{FoundSoFar}
use Rattle.types_stmt.specs.Declarations.{check_file}
use Rattle.types_declared.specs.Package.{Package}
use Rattle.types_info.specs.Worlds.{IsWorldOf, is_init}
use Rattle.types_check.specs.TypeFaults.{IsTypeFault}

-- c is the result of checking this file in its world
pub record IsChecked (p : Package) (file : ℕ) (c : FoundSoFar) : Type 0 where
  pub source : SourceFile
  pub in_file : slice_get p.files file ≡ Some source
  pub world : World
  pub judged_by : IsWorldOf p file source world
  pub is : c ≡ check_file world (is_init source) source.tree

-- f is a fault of type at one of the tokens of the file
pub record IsAtToken (file : ℕ) (tokens : List ℕ) (f : Fault) : Type 0 where
  pub in_file : f.file ≡ file
  pub at : Contains tokens f.token
  pub kind : f.kind ≡ kind.«Type»

-- f is a fault of type in this file
pub record IsTypeFaultIn (p : Package) (file : ℕ) (f : Fault) : Type 0 where
  pub in_file : f.file ≡ file
  pub fault : IsTypeFault p f
