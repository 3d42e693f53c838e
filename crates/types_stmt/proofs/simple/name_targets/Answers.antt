-- The answers to the goals of `simple::name_targets`.
use Rattle.std.proofs.Common.{None, sym, ◌∙◌, refl, arith}
use Rattle.go_ast.specs.View.{item_view, ident_view}
use Rattle.go_ast.specs.declared.tree.Item.{Item}
use Rattle.go_ast.specs.declared.tree.Ident.{Ident}
use Rattle.go_ast.specs.declared.tree.Ident.TheVariants as ident
use Rattle.types_stmt.specs.Sides.{Takes}
use Rattle.types_stmt.specs.View.{target_of}
use Rattle.types_stmt.proofs.Lists.{map_map, push_at, all_mapped}
use Rattle.types_stmt.proofs.simple.name_targets.Goals as goal

abbrev first_name : Item Ident
first_name = record { value = ident.Named 0; separator = None }

pub loop-item-preserved : goal.loop-item-preserved
unfolding target_of
loop-item-preserved c =
    push_at target_of (λ i. Takes) c.loop-item.targets.items _ _ c.args.names.now c.loop-item._item-index first_name c.in_ok-push.ensures.items
    c.loop-item-test.true refl c.loop-item.invariant

pub returns : goal.returns
returns c =
    all_mapped target_of (λ i. Takes) c.loop-item.targets.items c.args.names.now c.loop-item._item-index (omega arith) c.loop-item.invariant
    ∙ sym (map_map (λ i. Takes) (item_view ident_view) c.args.names.now)
