-- The invariants of the loops of `statements::statement`.
use Rattle.std.proofs.Common.{take}
use Rattle.std.specs.List.{flat_map}
use Rattle.go_scope.specs.IdentifierViews.{as_source, AddsTo}
use Rattle.go_scope.proofs.StatementParts.{statement_part}
use Rattle.go_ast.specs.declared.tree.BlockStmt.{out-BlockStmt}
use Rattle.go_scope.proofs.statements.+statement.Given as goal

abbrev pub invariant-add_block-loop-item : goal.invariant-add_block-loop-item
invariant-add_block-loop-item l = AddsTo l.initial.found.items l.found.items
    (flat_map (statement_part (as_source l.source) l.inner (out-BlockStmt l.block).close) (take l.item-index l.item-items))
