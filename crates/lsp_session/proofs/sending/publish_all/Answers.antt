-- The answers to the goals of `sending::publish_all`.
use Rattle.std.proofs.Common.{arith}
use Rattle.lsp_session.proofs.Written.{published_all, published_next, published_none}
use Rattle.lsp_session.proofs.sending.publish_all.Goals as goal

pub loop-params-init : goal.loop-params-init
loop-params-init g c = published_none c.args.all.now (g.W.Write.contents c.args.out.now)

pub loop-params-preserved : goal.loop-params-preserved
loop-params-preserved g c =
    published_next c.args.all.now c.loop-params.params-index c.params-item.result (g.W.Write.contents c.args.out.now)
    (g.W.Write.contents c.loop-params.out) (g.W.Write.contents c.publish.new.out) c.loop-params-test.true c.params-item.is c.in_ok-publish.ensures
    c.loop-params.invariant

pub returns : goal.returns
returns g c =
    published_all c.args.all.now c.loop-params.params-index (g.W.Write.contents c.args.out.now) (g.W.Write.contents c.loop-params.out)
    (omega (arith, c.loop-params-test.false)) c.loop-params.invariant
