-- The literals of the imports that were passed.
use Rattle.std.proofs.Common.{◌≡◌, ◌++◌, map, take}
use Rattle.workspace_graph.proofs.file_imports.add_items.Given as goal

abbrev pub invariant-loop-item : goal.invariant-loop-item
invariant-loop-item l = l.literals.items ≡ l.initial.literals.items ++ map (λ item. item.value.path) (take l.item-index l.items)
