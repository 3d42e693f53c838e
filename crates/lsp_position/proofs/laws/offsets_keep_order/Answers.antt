-- The answers to the goals of `laws::offsets_keep_order`.
use Rattle.lsp_position.proofs.Rising.{order_kept}
use Rattle.lsp_position.proofs.laws.offsets_keep_order.Goals as goal

pub returns : goal.returns
returns c = order_kept
