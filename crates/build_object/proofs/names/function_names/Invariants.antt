-- The invariants of the loops of `names::function_names`.
use Rattle.std.proofs.Common.{◌≡◌, ◌≤◌, ◌++◌, drop, map}
use Rattle.go_ast.specs.SourceFile.{source_of}
use Rattle.types_declared.specs.DeclaredView.{function_of as placed_function}
use Rattle.build_object.specs.LineView.{function_of}
use Rattle.build_object.specs.Names.{functions_behind}
use Rattle.build_object.proofs.names.function_names.Given as goal

abbrev pub invariant-loop-i : goal.invariant-loop-i
invariant-loop-i l = record {
  named : map function_of l.names.items ++ functions_behind l.path (map source_of l.files) l.initializers (map placed_function (drop l.i l.functions)) ≡
      functions_behind l.path (map source_of l.files) 0 (map placed_function l.functions);
  bounded : l.initializers ≤ l.i;
}
