-- The type definitions of a package, as the program has them.
use Rattle.std.specs.Prelude.{ℕ, ◌≡◌, List, Some, length, slice_get}
use Rattle.types_expr.specs.declared.world.Definition.{Definition}
use Rattle.types_expr.specs.WorldView.{definition_of}
use Rattle.types_declared.specs.Package.{Package, package_types}
use Rattle.types_declared.specs.Definitions.{IsDefinition}

-- the list has the definitions of the package, by rank
pub record HaveDefinitions (p : Package) (found : List Definition) : Type 0 where
  pub all : length found ≡ length (package_types p)
  pub each : (rank : ℕ) (d : Definition) → slice_get found rank ≡ Some d → IsDefinition p rank (definition_of d)
