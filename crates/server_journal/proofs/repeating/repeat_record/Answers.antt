-- The change of the record is made once more, or it is not possible.
use Rattle.std.proofs.lemmas.Result.{IfErr-weaker, on_ok_weaker}
use Rattle.server_journal.specs.Recovered.{FailsAtRecord, FailsToRepeat}
use Rattle.server_journal.proofs.Repeated.{fails_at, repeated_limits}
use Rattle.server_journal.proofs.repeating.repeat_record.Goals as goal

pub returns-in-Ok-clause-ok : goal.returns-in-Ok-clause-ok
returns-in-Ok-clause-ok c = on_ok_weaker c.make_again.result (λ repeats. (c.in-Ok.change, c.in-Ok.ensures.ok, repeats)) c.make_again.ensures.ok

pub returns-in-Ok-clause-limits : goal.returns-in-Ok-clause-limits
returns-in-Ok-clause-limits c =
    on_ok_weaker c.make_again.result (repeated_limits c.args.book.now c.make_again.new.book c.in-Ok.change) c.make_again.ensures.ok

pub returns-in-Ok-clause-err : goal.returns-in-Ok-clause-err
returns-in-Ok-clause-err c =
    let old = c.args.book.now in
    IfErr-weaker c.make_again.result (FailsToRepeat old c.in-Ok.change) (FailsAtRecord old c.args.held.now)
    (λ fault fails. fails_at old c.args.held.now c.in-Ok.change fault c.in-Ok.ensures.ok fails) c.make_again.ensures.err
