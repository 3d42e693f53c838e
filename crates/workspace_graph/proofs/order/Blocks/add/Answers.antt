-- One more block is listed.
use Rattle.std.proofs.Common.{◌≡◌, ◌<◌, ◌++◌, ℕ, List, length, ap, sym, subst, ◌∙◌}
use Rattle.std.specs.List.{All, Contains}
use Rattle.workspace_graph.specs.Imports.{Reaches}
use Rattle.workspace_graph.proofs.Filled.{ok_both}
use Rattle.workspace_graph.proofs.Reached.{noted_linked}
use Rattle.workspace_graph.proofs.ListedBlocks.{found_below, told_more}
use Rattle.workspace_graph.proofs.order.Blocks.add.Goals as goal

pub visit-requires : goal.visit-requires
visit-requires c = record { linked = c.requires.linked; size = c.requires.told.size; start = c.requires.root }

pub leads_back-requires : goal.leads_back-requires
leads_back-requires c =
    let g = c.args.imports.now in
    let noted = c.args.importers.now in
    let size : length noted ≡ length g = c.requires.back.size in
    let below = found_below g c.args.root c.args.self.now.told.items c.in_ok-block.block.items c.visit.new.marks.items c.in_ok-block.ensures in
    record {
      linked = noted_linked g noted c.requires.linked c.requires.back;
      size = c.requires.told.bars ∙ sym size;
      block = rw c.deref-2.ensures.value (subst (λ (n : ℕ). All (λ q. q < n) c.in_ok-block.block.items) (sym size) below);
      root = subst (λ (n : ℕ). c.args.root < n) (sym size) c.requires.root;
    }

pub returns : goal.returns
returns c =
    let g = c.args.imports.now in
    let noted = c.args.importers.now in
    let block = c.in_ok-block.block.items in
    let size : length noted ≡ length g = c.requires.back.size in
    ok_both c.leads_back.result
    (λ told leads bars t. told_more g noted c.requires.linked c.requires.back c.args.root c.args.self.now _ block c.requires.told c.in_ok-block.ensures
    (c.in_ok-extend_from_slice.ensures.items ∙ ap (λ (xs : List ℕ). c.args.self.now.order.items ++ xs) c.deref.ensures.value)
    (subst (λ (xs : List ℕ). (q : ℕ) → Contains xs q → Reaches noted c.args.root q) c.deref-2.ensures.value (leads t)) (bars ∙ size))
    c.leads_back.ensures.back c.leads_back.ensures.size
