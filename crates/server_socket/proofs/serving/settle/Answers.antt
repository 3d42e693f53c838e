-- The book that was settled, with its seats.
use Rattle.server_socket.proofs.ServedLaws.{settles}
use Rattle.server_socket.proofs.serving.settle.Goals as goal

pub returns : goal.returns
returns g c =
    let told = c.length_of.ensures in
    settles g.L.Opening.accounts g.L.Opening.begun g.L.Opening.from g.L.Ledger.parts g.L.Opening.limits c.args.seats.items c.settle.result c.length_of.result
    told.ok told.err c.settle.ensures.settled c.settle.ensures.limits
