-- The literals of one more import, and of all.
use Rattle.std.proofs.Common.{◌++◌, map, ap, ◌∙◌, arith}
use Rattle.std.proofs.lemmas.List.{take_all}
use Rattle.go_ast.specs.declared.tree.Item.{Item}
use Rattle.go_ast.specs.declared.tree.ImportSpec.{ImportSpec}
use Rattle.workspace_graph.proofs.ImportViews.{one_more}
use Rattle.workspace_graph.proofs.file_imports.add_items.Goals as goal

pub loop-item-preserved : goal.loop-item-preserved
loop-item-preserved c =
    one_more (λ (item : Item ImportSpec). item.value.path) c.args.items.now c.loop-item.item-index _ c.args.literals.now.items
    c.loop-item-test.true c.loop-item.invariant c.in_ok-push.ensures.items

pub returns : goal.returns
returns c =
    c.loop-item.invariant ∙ ap (λ items. c.args.literals.now.items ++ map (λ item. item.value.path) items)
    (take_all c.loop-item.item-index c.args.items.now (omega (arith, c.loop-item-test.false)))
