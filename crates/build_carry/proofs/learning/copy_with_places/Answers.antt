-- The copy holds the same verdicts, at as many places as there are packages.
use Rattle.std.proofs.Common.{arith}
use Rattle.workspace_check.proofs.Telling.{known_same}
use Rattle.build_carry.proofs.learning.copy_with_places.Goals as goal

pub returns-clause-room : goal.returns-clause-room
returns-clause-room c = omega (arith, c.len.ensures, c.in_ok-known.ensures.size)

pub returns-clause-known : goal.returns-clause-known
returns-clause-known c = known_same c.args.files.now c.args.own.now c.in_ok-known.known c.in_ok-known.ensures.same c.requires
