-- Block after block is listed, until all packages are.
use Rattle.std.proofs.Common.{Bool, List, ℕ, ◌<◌, length, subst, ◌∙◌}
use Rattle.workspace_graph.specs.Search.{IsMarked}
use Rattle.workspace_graph.proofs.Reached.{noted_linked}
use Rattle.workspace_graph.proofs.ListedBlocks.{told_none, order_is}
use Rattle.workspace_graph.proofs.order.order.Goals as goal

pub last_left_first-requires : goal.last_left_first-requires
last_left_first-requires c = noted_linked c.args.imports.now c.args.importers.now c.requires.linked c.requires.back

pub add_all-requires : goal.add_all-requires
add_all-requires c =
    let made = c.in_ok-blocks.ensures in
    record {
      linked = c.requires.linked;
      back = c.requires.back;
      told = told_none c.args.imports.now c.in_ok-blocks.blocks made.order made.told (made.size ∙ c.len.ensures) (made.bars ∙ c.len.ensures);
    }

pub returns : goal.returns
returns c =
    order_is c.args.imports.now c.add_all.new.self (c.in_ok-add_all.ensures c.if-not-branch.false)
    (subst (λ (ms : List Bool). (q : ℕ) → q < length ms → IsMarked ms q) c.deref-2.ensures.value (c.are_all_marked.ensures c.if-not-are_all_marked.false))
