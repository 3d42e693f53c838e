-- The answers to the goals of `output::write_both`.
use Rattle.std.proofs.lemmas.Result.{err_from_is_err_and}
use Rattle.server_session.proofs.Parts.{then_text, part_of}
use Rattle.server_session.proofs.output.write_both.Goals as goal

pub returns-in_err-write_whole-clause-written : goal.returns-in_err-write_whole-clause-written
returns-in_err-write_whole-clause-written g c =
    let p = err_from_is_err_and c.from_residual.result c.from_residual.ensures.1 in
    rw p.1
    (part_of (g.T.Sink.contents c.args.sink.now) (g.T.Sink.contents c.write_whole.new.sink) c.args.first.now c.args.second.now
    c.in_err-write_whole.ensures.written)

pub returns-clause-written : goal.returns-clause-written
returns-clause-written g c =
    then_text (g.T.Sink.contents c.args.sink.now) (g.T.Sink.contents c.write_whole.new.sink) (g.T.Sink.contents c.write_whole-2.new.sink)
    c.args.first.now c.args.second.now c.write_whole-2.result c.in_ok-write_whole.ensures.written c.write_whole-2.ensures.written
