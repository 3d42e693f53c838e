-- The invariants of the loops of `changed::changes_of`.
use Rattle.std.proofs.Common.{drop}
use Rattle.serde_json.specs.View.{items_view}
use Rattle.lsp_params.specs.Changed.{changes_view}
use Rattle.lsp_params.proofs.Listing.{GoesOn}
use Rattle.lsp_params.proofs.changed.changes_of.Given as goal

abbrev pub invariant-loop-item : goal.invariant-loop-item
invariant-loop-item l = GoesOn (items_view l.items) (items_view (drop l.item-index l.items)) (changes_view l.changes.items)
