-- The session of the command `run`.
use Rattle.std.specs.Prelude.{◌≡◌, ℕ, List, Option, Result}
use Rattle.base_files.specs.declared.limits.Limits.{Limits}
use Rattle.server_session.specs.Conversing.{EndsAlone}
use Rattle.server_session.specs.declared.exchange.SessionFault.{SessionFault}
use Rattle.server_shared.specs.LimitNumbers.{full_limits, limit_numbers}

-- A session over a new book ended with this result, whatever was read and written in it. Session and book have the greatest limits.
abbrev pub ServesOne : Result (Unit {0}) SessionFault → Type 0
ServesOne result =
    (limits : Limits) × (limit_numbers limits ≡ full_limits)
    × ((before : Option (List ℕ)) × (held : Option (List ℕ)) × (holds : Option (List ℕ)) × EndsAlone limits before held holds result)
