-- The answers to the goals of `code::Code::put`.
use Rattle.build_object.proofs.Putting.{lines_pushed}
use Rattle.build_object.proofs.code.Code.put.Goals as goal

pub returns : goal.returns
returns c = lines_pushed c.args.self.now (record { lines = c.push.new.self }) c.args.line c.in_ok-push.ensures.items
