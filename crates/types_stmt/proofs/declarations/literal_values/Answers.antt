-- The answers to the goals of `declarations::literal_values`.
use Rattle.std.proofs.Common.{None, sym, ◌∙◌, arith}
use Rattle.go_ast.specs.View.{item_view}
use Rattle.go_ast.specs.FileView.{basic_view}
use Rattle.go_ast.specs.declared.tree.Item.{Item}
use Rattle.go_ast.specs.declared.tree.BasicLit.{BasicLit}
use Rattle.go_ast.specs.declared.tree.BasicLit.TheVariants as literal
use Rattle.types_expr.specs.Found.{list_value}
use Rattle.types_stmt.specs.Declarations.{literal_value}
use Rattle.types_stmt.proofs.Lists.{map_map, push_at, all_mapped}
use Rattle.types_stmt.proofs.declarations.literal_values.Goals as goal

abbrev first_literal : Item BasicLit
first_literal = record { value = literal.Number 0; separator = None }

pub loop-item-preserved : goal.loop-item-preserved
loop-item-preserved c =
    push_at list_value (λ i. literal_value (basic_view i.value)) c.loop-item.values.items _ _ c.args.literals.now c.loop-item.item-index first_literal
    c.in_ok-push.ensures.items c.loop-item-test.true c.literal_value.ensures c.loop-item.invariant

pub returns : goal.returns
returns c =
    all_mapped list_value (λ i. literal_value (basic_view i.value)) c.loop-item.values.items c.args.literals.now c.loop-item.item-index (omega arith)
    c.loop-item.invariant
    ∙ sym (map_map (λ i. literal_value i.value) (item_view basic_view) c.args.literals.now)
