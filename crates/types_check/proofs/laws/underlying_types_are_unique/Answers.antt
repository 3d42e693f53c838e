-- The answers to the goals of `laws::underlying_types_are_unique`.
use Rattle.types_declared.proofs.OneUnderlying.{one_underlying}
use Rattle.types_check.proofs.laws.underlying_types_are_unique.Goals as goal

pub returns : goal.returns
returns c = one_underlying
