-- Turns at accepting connections.
use Rattle.std.specs.Prelude.{◌≡◌, ◌⊎◌, ◌-◌, ℕ, true, Some}
use Rattle.std.specs.Option.{option_map}
use Rattle.server_socket.specs.declared.turns.Accepting.{Accepting}
use Rattle.server_socket.specs.declared.turns.NextConnection.{NextConnection}
use Rattle.server_socket.specs.declared.turns.NextConnection.TheVariants.{Accepted, Failed, Over}

-- no connection is to be accepted any more: accepting was ended, or no connection is left
abbrev pub HasEnded : Accepting → Type 0
HasEnded turns = (turns.is_over ≡ true) ⊎ (turns.left ≡ Some 0)

-- one connection was accepted: one less is left to be accepted, if their number is limited
abbrev pub AcceptsOne : (old new : Accepting) → Type 0
AcceptsOne old new = ¬ (HasEnded old) × (new.left ≡ option_map (λ (n : ℕ). n - 1) old.left) × (new.is_over ≡ old.is_over)

-- nothing changes
abbrev pub StaysAsBefore : (old new : Accepting) → Type 0
StaysAsBefore old new = (new.left ≡ old.left) × (new.is_over ≡ old.is_over)

-- the end was asked for: none is to be accepted any more
abbrev pub EndsAccepting : (old new : Accepting) → Type 0
EndsAccepting old new = (new.left ≡ old.left) × (new.is_over ≡ true)

-- What came of a turn. A failure changes nothing, so it may be tried again. Where none is accepted any more, none was to be accepted and
-- nothing changes, or the end was asked for.
abbrev pub IsNextConnection : Accepting → NextConnection → Accepting → Type 0
IsNextConnection old (Accepted stream) new = AcceptsOne old new
IsNextConnection old Failed new = ¬ (HasEnded old) × StaysAsBefore old new
IsNextConnection old Over new = (HasEnded old × StaysAsBefore old new) ⊎ (¬ (HasEnded old) × EndsAccepting old new)
