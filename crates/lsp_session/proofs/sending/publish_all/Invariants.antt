-- The invariants of the loops of `sending::publish_all`.
use Rattle.std.proofs.Common.{map, take}
use Rattle.serde_json.specs.View.{view}
use Rattle.lsp_session.specs.Messages.{WritesMessages, published}
use Rattle.lsp_session.proofs.sending.publish_all.Given as goal

-- the faults of the documents so far are published
abbrev pub invariant-loop-params : goal.invariant-loop-params
invariant-loop-params g l =
    WritesMessages (map published (map view (take l.params-index l.all))) (g.W.Write.contents l.initial.out) (g.W.Write.contents l.out)
