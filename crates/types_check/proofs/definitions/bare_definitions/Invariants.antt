-- The invariants of the loops of `definitions::bare_definitions`.
use Rattle.std.proofs.Common.{ℕ, ◌≡◌, length}
use Rattle.std.specs.Prelude.{Some, slice_get}
use Rattle.types_expr.specs.declared.world.Definition.{Definition}
use Rattle.types_expr.specs.WorldView.{definition_of}
use Rattle.types_declared.specs.PackageView.{package_of}
use Rattle.types_check.specs.Building.{IsDefinitionBelow}
use Rattle.types_check.proofs.definitions.bare_definitions.Given as goal

abbrev pub invariant-loop-rank : goal.invariant-loop-rank
invariant-loop-rank l = record {
  all : length l.found.items ≡ l.rank;
  each : (rank : ℕ) (d : Definition) → slice_get l.found.items rank ≡ Some d → IsDefinitionBelow (package_of l.pkg) 0 0 rank (definition_of d);
}
