-- A chunk set is a chunk between those before it and those behind.
use Rattle.std.proofs.Common.{arith}
use Rattle.base_chunks.proofs.Joining.{one_at}
use Rattle.base_chunks.proofs.chunks.put_one.Goals as goal

pub returns-then-at-len-clause-ok : goal.returns-then-at-len-clause-ok
returns-then-at-len-clause-ok g c = one_at c.args.chunks.now.items c.args.at c.args.chunk (omega (arith, c.args.chunks.now.ok.0))
