-- Events at a seat.
use Rattle.std.specs.Prelude.{ℕ, List, Option}
use Rattle.history_machine.specs.declared.event.Event.{Event}
use Rattle.history_machine.specs.declared.event.Reply.{Reply}
use Rattle.server_shared.specs.declared.receipt.Receipt.{Receipt}
use Rattle.server_shared.specs.Call.{Calls}

-- the event is one call at the seat, whichever index it got, if it got one; the journal has `most` entries at most
abbrev pub CallsAtSeat : ℕ → List Receipt → Event → Reply → List Receipt → Type 0
CallsAtSeat most old event reply new = (index : Option ℕ) × Calls most old event reply index new
