-- The invariants of the loops of `imports::push_imports`.
use Rattle.std.proofs.Common.{◌≡◌, ◌++◌}
use Rattle.std.specs.List.{flat_map}
use Rattle.workspace_graph.specs.ImportPaths.{bytes_of_paths}
use Rattle.build_object.specs.ObjectText.{import_line}
use Rattle.build_object.proofs.imports.push_imports.Given as goal

abbrev pub invariant-loop-path : goal.invariant-loop-path
invariant-loop-path l = l.text.items ++ flat_map import_line (bytes_of_paths l.path-iterator) ≡ l.initial.text.items ++ flat_map import_line
    (bytes_of_paths l.paths.keys)
