-- The laws of the lines of a session.
use Rattle.std.specs.Prelude.{◌≡◌, ℕ, List}
use Rattle.base_files.specs.declared.limits.Limits.{Limits}
use Rattle.server_read.specs.declared.message.Message.{Message}
use Rattle.server_read.specs.Wire.{Says, Reads, Ends}

-- an input has one first message at most, and one rest after it
abbrev pub BeginsOneWay : Type 0
BeginsOneWay = (limits : Limits) (input : List ℕ) (m n : Message) (rest other : List ℕ)
    → Says limits input m rest → Says limits input n other → (m ≡ n) × (rest ≡ other)

-- an input has one list of messages up to the end of its session
abbrev pub ReadsOneWay : Type 0
ReadsOneWay = (limits : Limits) (input : List ℕ) (ms ns : List Message) (rest other end last : List ℕ)
    → Reads limits input ms rest → Ends limits rest end → Reads limits input ns other → Ends limits other last → (ms ≡ ns) × (rest ≡ other)
