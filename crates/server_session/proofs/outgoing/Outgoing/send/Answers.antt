-- The reply was written, or a first part of it.
use Rattle.std.proofs.Common.{refl}
use Rattle.std.proofs.lemmas.Result.{err_from_is_err_and}
use Rattle.server_session.proofs.outgoing.Outgoing.send.Goals as goal

pub returns-in-End-clause-written : goal.returns-in-End-clause-written
returns-in-End-clause-written g c = rw c.in-End.is (refl, refl)

pub returns-in_ok-send_reply-in-Reply-clause-written : goal.returns-in_ok-send_reply-in-Reply-clause-written
returns-in_ok-send_reply-in-Reply-clause-written g c = rw c.in-Reply.is (c.in_ok-send_reply-in-Reply.ensures.written, refl)

pub returns-in_err-send_reply-in-Reply-clause-written : goal.returns-in_err-send_reply-in-Reply-clause-written
returns-in_err-send_reply-in-Reply-clause-written g c =
    let p = err_from_is_err_and c.from_residual.result c.from_residual.ensures.1 in
    rw (c.in-Reply.is, p.1, p.2) (c.in_err-send_reply-in-Reply.ensures.written, refl)
