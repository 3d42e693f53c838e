-- At first nothing is known.
use Rattle.std.proofs.Common.{arith}
use Rattle.workspace_check.proofs.Telling.{known_same}
use Rattle.tool_threads.proofs.together.verdicts_together.Goals as goal

pub check_ready-requires-clause-room : goal.check_ready-requires-clause-room
check_ready-requires-clause-room g c = omega (arith, c.len.ensures, c.in_ok-known.ensures.size)

pub check_ready-requires-clause-known : goal.check_ready-requires-clause-known
check_ready-requires-clause-known g c =
    known_same c.args.graph.now c.new-nothing.result c.in_ok-known.known c.in_ok-known.ensures.same (c.new-nothing.ensures.right c.args.graph.now)
