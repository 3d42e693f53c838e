-- The Job is delivered, or given back.
use Rattle.std.proofs.Common.{inl, inr, refl}
use Rattle.server_shared.proofs.working.hand_in.Goals as goal

pub returns-in-Ok : goal.returns-in-Ok
returns-in-Ok g c = c.deliver.ensures

pub returns-in-Err : goal.returns-in-Err
returns-in-Err g c = inr (refl, inl c.give_back.ensures)
