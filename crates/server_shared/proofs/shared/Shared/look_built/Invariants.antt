-- The share has counted nothing yet.
use Rattle.std.proofs.Common.{◌≡◌}
use Rattle.server_shared.proofs.shared.Shared.look_built.Given as goal

abbrev pub invariant-loop : goal.invariant-loop
invariant-loop g l = (l.share.amount ≡ l.fn.share.amount) × (l.share.parts ≡ l.fn.share.parts)
