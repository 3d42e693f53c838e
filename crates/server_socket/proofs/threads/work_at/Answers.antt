-- The worker took turns at a seat at which it alone had called.
use Rattle.server_socket.proofs.ReturnedLaws.{worked_more}
use Rattle.server_socket.proofs.threads.work_at.Goals as goal

pub invariant_of-result : goal.invariant_of-result
invariant_of-result g c = record {
  worked = worked_more g.L.Opening.most c.args.held.seat c.worker.new.seat c.args.held.worked c.worker.ensures.works;
  fresh = c.args.held.fresh;
  here = c.worker.ensures.here;
}
