-- The invariants of the loops of `names::initializers`.
use Rattle.std.proofs.Common.{◌≡◌, ◌≤◌, drop, map}
use Rattle.go_ast.specs.SourceFile.{source_of}
use Rattle.types_declared.specs.DeclaredView.{function_of as placed_function}
use Rattle.build_object.specs.Names.{initializers_among}
use Rattle.build_object.proofs.names.initializers.Given as goal

abbrev pub invariant-loop-i : goal.invariant-loop-i
invariant-loop-i l = record {
  counted : initializers_among (map source_of l.files) l.number (map placed_function (drop l.i l.functions)) ≡
      initializers_among (map source_of l.files) 0 (map placed_function l.functions);
  bounded : l.number ≤ l.i;
}
