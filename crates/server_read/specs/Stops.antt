-- Reads that stop within a line or a body.
use Rattle.std.specs.Prelude.{◌≡◌, ℕ, ◌<◌, List, length, Option}
use Rattle.std.specs.List.{position_or_len}
use Rattle.std.specs.Io.KnownBytes.{Consumes}
use Rattle.server_read.specs.FirstLine.{is_newline}

-- a part of the first line is read, and not its newline
abbrev pub StopsInLine : (before after : Option (List ℕ)) → Type 0
StopsInLine before after = (part : List ℕ) × Consumes before after part × (position_or_len is_newline part ≡ length part)

-- fewer than `size` bytes are read
abbrev pub StopsBefore : (before after : Option (List ℕ)) → ℕ → Type 0
StopsBefore before after size = (part : List ℕ) × (length part < size) × Consumes before after part
