-- The imports of the literals that were passed.
use Rattle.std.proofs.Common.{◌≡◌, take}
use Rattle.std.specs.List.{AllZip}
use Rattle.go_ast.specs.SourceFile.{source_of}
use Rattle.workspace_graph.specs.FileImports.{HasValue}
use Rattle.workspace_graph.proofs.file_imports.read_imports.Given as goal

abbrev pub invariant-loop-literal : goal.invariant-loop-literal
invariant-loop-literal l = AllZip (λ token found. (found.literal ≡ token) × HasValue (source_of l.file) token found.path)
    (take l.literal-index l.literal-items) l.imports.items
