-- The invariants of the loops of `imports::add_import_decl`.
use Rattle.std.proofs.Common.{take, ◌∷◌, []}
use Rattle.std.specs.List.{flat_map}
use Rattle.types_declared.specs.Listing.{AddsEach}
use Rattle.go_ast.specs.FileView.{import_view}
use Rattle.go_ast.specs.SourceFile.{source_of}
use Rattle.types_declared.specs.States.{state_in}
use Rattle.types_resolve.specs.Imports.{IsFaultOfImport}
use Rattle.types_resolve.proofs.imports.add_import_decl.Given as goal

abbrev pub invariant-loop-item : goal.invariant-loop-item
invariant-loop-item l = AddsEach (IsFaultOfImport (state_in l.states)) l.initial.found.items l.found.items
    (flat_map (λ x. ((l.rank, source_of l.file), import_view x.value) ∷ []) (take l.item-index l.item-items))
