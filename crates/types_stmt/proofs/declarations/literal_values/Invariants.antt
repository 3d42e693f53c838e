-- The invariants of the loops of `declarations::literal_values`.
use Rattle.std.proofs.Common.{◌≡◌, take, map}
use Rattle.go_ast.specs.FileView.{basic_view}
use Rattle.types_expr.specs.Found.{list_value}
use Rattle.types_stmt.specs.Declarations.{literal_value}
use Rattle.types_stmt.proofs.declarations.literal_values.Given as goal

abbrev pub invariant-loop-item : goal.invariant-loop-item
invariant-loop-item l = map list_value l.values.items ≡ map (λ i. literal_value (basic_view i.value)) (take l.item-index l.literals)
