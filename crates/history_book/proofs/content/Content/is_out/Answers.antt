-- The Job is out, as was tested.
use Rattle.std.proofs.Common.{◌↔◌, IsTrue, subst}
use Rattle.build_unit.specs.Jobs.{IsOut}
use Rattle.history_machine.specs.Machine.{Content}
use Rattle.history_book.proofs.content.Content.is_out.Goals as goal

pub returns : goal.returns
returns c = subst (λ (x : Content). IsTrue c.is_out.result ↔ IsOut x.out c.args.job.now) c.self.view_is c.is_out.ensures
