-- Reading the next message.
use Rattle.std.specs.Prelude.{◌≡◌, ℕ, List, ◌++◌, Option, Some, IfSome, Result, Ok, Err}
use Rattle.base_files.specs.declared.limits.Limits.{Limits}
use Rattle.server_read.specs.declared.command.Command.{Command}
use Rattle.server_read.specs.declared.message.Message.TheVariants.{Ask}
use Rattle.server_read.specs.declared.input.InputFault.{InputFault}
use Rattle.server_read.specs.Wire.{Says, Ends, StaysWithin}
use Rattle.server_read.specs.declared.next.Next.{Next}
use Rattle.server_read.specs.declared.next.Next.TheVariants as next

-- The next message is read, or the end of the session, or a command that is dropped for want of memory. After a fault neither a whole
-- message nor an end was read. `before` and `after` are the bytes that the reader has left, where they are known.
abbrev pub ReadsNext : Limits → (before after : Option (List ℕ)) → Result Next InputFault → Type 0
ReadsNext limits before after (Ok next.End) = IfSome before (λ input. (rest : List ℕ) × Ends limits input rest × (after ≡ Some rest))
ReadsNext limits before after (Ok (next.Message message)) = IfSome before (λ input. (rest : List ℕ) × Says limits input message rest × (after ≡ Some rest))
ReadsNext limits before after (Ok next.NoRoom) = IfSome before
    (λ input. (command : Command) × (rest : List ℕ) × Says limits input (Ask command) rest × (after ≡ Some rest))
ReadsNext limits before after (Err fault) = IfSome before
    (λ input. (part : List ℕ) × (rest : List ℕ) × (input ≡ part ++ rest) × (after ≡ Some rest) × StaysWithin limits part rest)
