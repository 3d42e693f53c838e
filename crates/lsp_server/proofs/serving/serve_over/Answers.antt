-- The answers to the goals of `serving::serve_over`.
use Rattle.std.proofs.lemmas.Result.{IfOk-weaker}
use Rattle.lsp_server.proofs.serving.serve_over.Goals as goal

pub returns : goal.returns
returns g c =
    IfOk-weaker c.converse_over-ended.result _ _ (λ is_orderly converses. (c.args.rt, c.converse_over-ended.new.service, converses))
    (rw c.new-solo.ensures at c.converse_over-ended.ensures)
