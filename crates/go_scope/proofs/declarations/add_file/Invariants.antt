-- The invariants of the loops of `declarations::add_file`.
use Rattle.std.proofs.Common.{take}
use Rattle.std.specs.List.{flat_map}
use Rattle.go_scope.specs.IdentifierViews.{as_source, AddsTo}
use Rattle.go_scope.proofs.FileParts.{imports_part, decl_part}
use Rattle.go_scope.proofs.declarations.add_file.Given as goal

abbrev pub invariant-loop-import : goal.invariant-loop-import
invariant-loop-import l = AddsTo l.initial.found.items l.found.items (flat_map (imports_part (as_source l.source)) (take l.import-index l.import-items))

abbrev pub invariant-loop-decl : goal.invariant-loop-decl
invariant-loop-decl l = AddsTo l.initial.found.items l.found.items (flat_map (decl_part (as_source l.source)) (take l.decl-index l.decl-items))
