-- The answers to the goals of `declarations::global_targets`.
use Rattle.std.proofs.Common.{ℕ, None, ap, sym, ◌∙◌, arith, option_map}
use Rattle.go_ast.specs.View.{item_view}
use Rattle.go_ast.specs.FileView.{same_index}
use Rattle.go_ast.specs.declared.tree.Item.{Item}
use Rattle.types_expr.specs.View.{type_of}
use Rattle.types_stmt.specs.Sides.{Wants}
use Rattle.types_stmt.specs.View.{target_of}
use Rattle.types_stmt.proofs.Lists.{map_map, push_at, all_mapped}
use Rattle.types_stmt.proofs.declarations.global_targets.Goals as goal

abbrev first_name : Item ℕ
first_name = record { value = 0; separator = None }

pub loop-item-preserved : goal.loop-item-preserved
unfolding target_of
loop-item-preserved c =
    push_at target_of (λ i. Wants (option_map type_of c.args.own.now)) c.loop-item.targets.items _ _ c.args.names.now c.loop-item._item-index first_name
    c.in_ok-push.ensures.items c.loop-item-test.true (ap Wants c.in_ok-copied.ensures) c.loop-item.invariant

pub returns : goal.returns
returns c =
    all_mapped target_of (λ i. Wants (option_map type_of c.args.own.now)) c.loop-item.targets.items c.args.names.now c.loop-item._item-index (omega arith)
    c.loop-item.invariant
    ∙ sym (map_map (λ i. Wants (option_map type_of c.args.own.now)) (item_view same_index) c.args.names.now)
