-- The invariants of the loops of `output::write_whole`.
use Rattle.std.proofs.Common.{◌≡◌, ◌++◌, ℕ, List, length}
use Rattle.std.specs.Io.KnownBytes.{Appends}
use Rattle.server_session.proofs.output.write_whole.Given as goal

abbrev pub invariant-loop-rest : goal.invariant-loop-rest
invariant-loop-rest g l = (written : List ℕ) × (l.fn.bytes ≡ written ++ l.rest)
    × Appends (g.T.Sink.contents l.initial.sink) (g.T.Sink.contents l.sink) written
    × (g.T.Sink.failures l.sink ≡ g.T.Sink.failures l.initial.sink)

abbrev pub decreases-loop-rest : goal.decreases-loop-rest
decreases-loop-rest g l = length l.rest
