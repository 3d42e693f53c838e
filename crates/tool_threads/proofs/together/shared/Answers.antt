-- The copy knows what was known.
use Rattle.tool_threads.proofs.Kept.{copy_knows}
use Rattle.tool_threads.proofs.together.shared.Goals as goal

pub returns : goal.returns
returns c =
    copy_knows c.args.graph.now c.args.known.now c.in_ok-copy.copy c.new.result c.in_ok-copy.ensures.same c.requires c.new.ensures
