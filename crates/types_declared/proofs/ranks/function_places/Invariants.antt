-- The invariants of the loops of `ranks::function_places`.
use Rattle.std.proofs.Common.{◌≡◌, map, take}
use Rattle.types_declared.specs.Package.{function_place}
use Rattle.types_declared.specs.DeclaredView.{function_of}
use Rattle.types_declared.proofs.ranks.function_places.Given as goal

abbrev pub invariant-loop-function : goal.invariant-loop-function
invariant-loop-function l = l.places.items ≡ map function_place (map function_of (take l.function-index l.functions))
