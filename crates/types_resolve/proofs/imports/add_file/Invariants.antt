-- The invariants of the loops of `imports::add_file`.
use Rattle.std.proofs.Common.{take, map}
use Rattle.std.specs.List.{flat_map}
use Rattle.types_declared.specs.Listing.{AddsEach}
use Rattle.go_ast.specs.FileView.{imports_view}
use Rattle.go_ast.specs.SourceFile.{source_of}
use Rattle.types_declared.specs.Files.{group_items}
use Rattle.types_declared.specs.States.{state_in}
use Rattle.types_resolve.specs.Imports.{IsFaultOfImport}
use Rattle.types_resolve.proofs.imports.add_file.Given as goal

abbrev pub invariant-loop-decl : goal.invariant-loop-decl
invariant-loop-decl l = AddsEach (IsFaultOfImport (state_in l.states)) l.initial.found.items l.found.items
    (flat_map (λ d. map (λ i. ((l.rank, source_of l.file), i)) (group_items (imports_view d).imports)) (take l.decl-index l.decl-items))
