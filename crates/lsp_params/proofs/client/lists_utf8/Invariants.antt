-- The invariants of the loops of `client::lists_utf8`.
use Rattle.std.proofs.Common.{◌≡◌, drop}
use Rattle.serde_json.specs.View.{items_view}
use Rattle.lsp_params.specs.Client.{lists_utf8}
use Rattle.lsp_params.proofs.client.lists_utf8.Given as goal

abbrev pub invariant-loop-item : goal.invariant-loop-item
invariant-loop-item l = lists_utf8 (items_view l.items) ≡ lists_utf8 (items_view (drop l.item-index l.items))
