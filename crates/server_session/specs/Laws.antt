-- The law of a session.
use Rattle.std.specs.Prelude.{◌≡◌, ℕ, List, [], ◌∷◌, ◌++◌}
use Rattle.base_files.specs.declared.limits.Limits.{Limits}
use Rattle.history_machine.specs.declared.event.Event.{Event}
use Rattle.history_machine.specs.declared.event.Reply.{Reply}
use Rattle.history_machine.specs.Machine.{Machine}
use Rattle.history_machine.specs.Step.{Step}
use Rattle.history_machine.specs.Run.{Run}
use Rattle.server_commands.specs.Wait.{RefusesWait, SoloWaits}
use Rattle.server_session.specs.Transcript.{Exchange, CutsOff}

-- A list of events that gains each event with its reply. Taken as the steps of a desk, it shows which events the messages send.
abbrev pub GainsEvent : List (Event × Reply) → Event → Reply → List (Event × Reply) → Type 0
GainsEvent old event reply new = new ≡ old ++ (event, reply) ∷ []

-- An exchange over a book is a run of its machine: its events are those that the messages send, in their order. The text is that of the
-- answers that the messages make of these events' replies. What a `status` tells is no event's reply.
abbrev pub RunsTheMachine : Type 0
RunsTheMachine = (limits : Limits) (input rest : List ℕ) (old new : Machine) (text : List ℕ)
    → Exchange Step SoloWaits limits input rest old new text
    → (events : List (Event × Reply)) × Run old events new × Exchange GainsEvent RefusesWait limits input rest [] events text

-- An exchange over a book that ends because the writer failed is a run of its machine. The run's events are those that the messages send.
abbrev pub RunsUntilCutOff : Type 0
RunsUntilCutOff = (limits : Limits) (input rest : List ℕ) (old new : Machine) (text : List ℕ)
    → CutsOff Step SoloWaits limits input rest old new text
    → (events : List (Event × Reply)) × Run old events new × CutsOff GainsEvent RefusesWait limits input rest [] events text
