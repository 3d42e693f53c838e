-- Those below were counted.
use Rattle.std.proofs.Common.{◌≡◌, ◌≤◌, map, take}
use Rattle.go_ast.specs.SourceFile.{source_of}
use Rattle.types_declared.specs.Package.{declared_functions}
use Rattle.build_object.specs.Names.{initializers_among}
use Rattle.build_object.proofs.walks.initializers_below.Given as goal

abbrev pub invariant-loop-below : goal.invariant-loop-below
invariant-loop-below l = record {
  counted : l.number ≡ initializers_among (map source_of l.files) 0 (take l.below (declared_functions (map source_of l.files)));
  bounded : l.number ≤ l.below;
}
