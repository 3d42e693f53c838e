-- Reading a line of the input. `before` and `after` are the bytes that the reader has left, where they are known.
use Rattle.std.specs.Prelude.{◌≡◌, ◌≢◌, ◌<◌, ◌≤◌, ℕ, List, [], ◌∷◌, length, Option, None, Some, IfSome, Result, Ok, Err}
use Rattle.std.specs.Io.KnownBytes.{Consumes, Keeps, IsAtEnd}
use Rattle.server_read.specs.Stops.{StopsInLine}
use Rattle.server_read.specs.FirstLine.{first_line, after_line}
use Rattle.server_read.specs.declared.input.ReadLine.{ReadLine}
use Rattle.server_read.specs.declared.input.ReadLine.TheVariants.{Nothing, Whole, TooLong}
use Rattle.server_read.specs.declared.input.InputFault.{InputFault}

-- one byte is read, or none at the end of the input
abbrev pub TakesByte : (before after : Option (List ℕ)) → Result (Option ℕ) InputFault → Type 0
TakesByte before after (Ok (Some byte)) = Consumes before after (byte ∷ [])
TakesByte before after (Ok None) = Keeps before after × IsAtEnd after
TakesByte before after (Err fault) = Keeps before after

-- The first line and its newline are read. `line` has the line's bytes where it is within the limit.
abbrev pub ReadsLine : ℕ → (before after : Option (List ℕ)) → List ℕ → Result ReadLine InputFault → Type 0
ReadsLine limit before after line (Ok Nothing) = IfSome before (λ input. (input ≡ []) × (after ≡ Some []))
ReadsLine limit before after line (Ok Whole) = IfSome before (λ input.
    (input ≢ []) × (length line ≤ limit) × (line ≡ first_line input) × (after ≡ Some (after_line input)))
ReadsLine limit before after line (Ok TooLong) = IfSome before (λ input.
    (input ≢ []) × (limit < length (first_line input)) × (after ≡ Some (after_line input)))
ReadsLine limit before after line (Err fault) = StopsInLine before after
