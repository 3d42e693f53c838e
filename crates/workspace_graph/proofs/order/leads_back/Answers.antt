-- All of the block is found by a search from the root that goes through the block alone.
use Rattle.std.proofs.Common.{◌<◌, ℕ, Bool, List, sym, subst, ◌∙◌}
use Rattle.std.specs.List.{All, Contains}
use Rattle.workspace_graph.specs.Search.{IsMarked}
use Rattle.workspace_graph.proofs.ListedBlocks.{found_back}
use Rattle.workspace_graph.proofs.order.leads_back.Goals as goal

pub clear-requires : goal.clear-requires
clear-requires c = subst (λ (n : ℕ). All (λ q. q < n) c.args.block.now) (sym c.requires.size) c.requires.block

pub visit-requires : goal.visit-requires
visit-requires c = record { linked = c.requires.linked; size = c.clear.ensures.size ∙ c.requires.size; start = c.requires.root }

pub are_marked-requires : goal.are_marked-requires
are_marked-requires c =
    let size = c.in_ok-visit.ensures.finds.size ∙ c.clear.ensures.size ∙ c.requires.size in
    rw c.deref.ensures.value (subst (λ (n : ℕ). All (λ q. q < n) c.args.block.now) (sym size) c.requires.block)

pub returns-clause-size : goal.returns-clause-size
returns-clause-size c = c.in_ok-visit.ensures.finds.size ∙ c.clear.ensures.size ∙ c.requires.size

pub returns-clause-back : goal.returns-clause-back
returns-clause-back c = λ t.
    let marks = c.visit.new.marks.items in
    let all = subst (λ (ms : List Bool). (q : ℕ) → Contains c.args.block.now q → IsMarked ms q) c.deref.ensures.value (c.are_marked.ensures t) in
    found_back c.args.importers.now c.args.root c.args.block.now c.clear.new.marks.items c.in_ok-visit.field-0.items marks c.clear.ensures.clear
    c.in_ok-visit.ensures all
