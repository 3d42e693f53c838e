-- The seat holds no receipt any more, or keeps them.
use Rattle.std.proofs.Common.{inr, refl}
use Rattle.server_shared.proofs.shared.Shared.hand_in.Goals as goal

pub returns-then-is_empty : goal.returns-then-is_empty
returns-then-is_empty g c = inr refl
