-- Reading the bytes that a command's line announces. `before` and `after` are the bytes that the reader has left after the line.
use Rattle.std.specs.Prelude.{◌≡◌, ◌↔◌, ℕ, ◌<◌, ◌≤◌, List, [], length, take, drop, Option, None, Some, IfSome, Result, Ok, Err, Bool, IsTrue}
use Rattle.std.specs.Io.KnownBytes.{Keeps}
use Rattle.base_files.specs.declared.limits.Limits.{Limits}
use Rattle.server_read.specs.declared.command.Command.{Command}
use Rattle.server_read.specs.declared.command.Command.TheVariants as command
use Rattle.server_read.specs.declared.command.StateCommand.TheVariants as state
use Rattle.server_read.specs.declared.input.InputFault.{InputFault}
use Rattle.server_read.specs.declared.body.Body.{Body}
use Rattle.server_read.specs.declared.body.Body.TheVariants as body
use Rattle.server_read.specs.declared.message.Message.TheVariants.{Ask, Unknown, CutShort}
use Rattle.server_read.specs.declared.next.Next.{Next}
use Rattle.server_read.specs.declared.next.Next.TheVariants as next
use Rattle.server_read.specs.Stops.{StopsBefore}
use Rattle.server_read.specs.Wire.{IsBodyKept, SaysCommand}

-- whether the body of a put with this path and size is kept
abbrev pub SaysIfKept : Limits → List ℕ → ℕ → Bool → Type 0
SaysIfKept limits path size kept = IsTrue kept ↔ IsBodyKept limits path size

-- the message of a line `put`, from the outcome of reading its body
abbrev pub put_next : ℕ → List ℕ → ℕ → Body → Next
put_next basis path size (body.Kept text) = next.Message (Ask (command.OnState (state.Put basis path size (Some text))))
put_next basis path size body.Dropped = next.Message (Ask (command.OnState (state.Put basis path size None)))
put_next basis path size body.NoRoom = next.NoRoom
put_next basis path size body.Short = next.Message CutShort

-- the command of a line `put`, whose body is not read yet
abbrev pub put_line : ℕ → List ℕ → ℕ → Command
put_line basis path size = command.OnState (state.Put basis path size None)

-- `size` bytes are read; the command of a line, with these bytes, is this command
abbrev pub TakesCommand : Limits → Command → ℕ → (before after : Option (List ℕ)) → Command → Type 0
TakesCommand limits said size before after asked = IfSome before (λ input.
    (size ≤ length input) × SaysCommand limits said (take size input) asked × (after ≡ Some (drop size input)))

-- Reading the body of a line `put` with this basis, path and size.
abbrev pub ReadsPut : Limits → ℕ → List ℕ → ℕ → (before after : Option (List ℕ)) → Result Next InputFault → Type 0
ReadsPut limits basis path size before after (Ok (next.Message (Ask asked))) = TakesCommand limits (put_line basis path size) size before after asked
ReadsPut limits basis path size before after (Ok next.NoRoom) =
    (asked : Command) × TakesCommand limits (put_line basis path size) size before after asked
ReadsPut limits basis path size before after (Ok (next.Message CutShort)) = IfSome before (λ input. (length input < size) × (after ≡ Some []))
ReadsPut limits basis path size before after (Ok (next.Message Unknown)) = ⊥
ReadsPut limits basis path size before after (Ok next.End) = ⊥
ReadsPut limits basis path size before after (Err fault) = StopsBefore before after size

-- reading on after the line of a command: the bytes that it announces are read, and the message is made
abbrev pub ReadsAfter : Limits → Command → (before after : Option (List ℕ)) → Result Next InputFault → Type 0
ReadsAfter limits (command.OnState (state.Put basis path size unread)) before after r = ReadsPut limits basis path size before after r
ReadsAfter limits said before after r = (r ≡ Ok (next.Message (Ask said))) × Keeps before after
