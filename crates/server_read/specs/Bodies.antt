-- Reading a body. `before` and `after` are the bytes that the reader has left, where they are known.
use Rattle.std.specs.Prelude.{◌≡◌, ℕ, ◌<◌, List, length, Option, Result, Ok, Err, Bool, true, false}
use Rattle.std.specs.Io.KnownBytes.{Consumes, IsAtEnd}
use Rattle.server_read.specs.declared.input.InputFault.{InputFault}
use Rattle.server_read.specs.declared.body.Body.{Body}
use Rattle.server_read.specs.declared.body.Body.TheVariants as body
use Rattle.server_read.specs.Stops.{StopsBefore}

-- `size` bytes are read
abbrev pub ReadsBytes : (before after : Option (List ℕ)) → ℕ → Type 0
ReadsBytes before after size = (bytes : List ℕ) × (length bytes ≡ size) × Consumes before after bytes

-- the input ends before `size` bytes, and is read to its end
abbrev pub FallsShort : (before after : Option (List ℕ)) → ℕ → Type 0
FallsShort before after size = (bytes : List ℕ) × (length bytes < size) × Consumes before after bytes × IsAtEnd after

-- Filling a buffer, which is `buf` after it: true where it is filled, false where the input ends first.
abbrev pub Fills : (before after : Option (List ℕ)) → List ℕ → Result Bool InputFault → Type 0
Fills before after buf (Ok true) = Consumes before after buf
Fills before after buf (Ok false) = FallsShort before after (length buf)
Fills before after buf (Err fault) = StopsBefore before after (length buf)

-- Skipping `size` bytes: true where they are read, false where the input ends first.
abbrev pub Skips : (before after : Option (List ℕ)) → ℕ → Result Bool InputFault → Type 0
Skips before after size (Ok true) = ReadsBytes before after size
Skips before after size (Ok false) = FallsShort before after size
Skips before after size (Err fault) = StopsBefore before after size

-- Reading a body of `size` bytes: it is kept or dropped, as `is_kept` says, or dropped for want of memory. It is short where the input ends
-- first.
abbrev pub ReadsBody : (before after : Option (List ℕ)) → ℕ → Bool → Result Body InputFault → Type 0
ReadsBody before after size is_kept (Ok (body.Kept bytes)) = (is_kept ≡ true) × (length bytes ≡ size) × Consumes before after bytes
ReadsBody before after size is_kept (Ok body.Dropped) = (is_kept ≡ false) × ReadsBytes before after size
ReadsBody before after size is_kept (Ok body.NoRoom) = (is_kept ≡ true) × ReadsBytes before after size
ReadsBody before after size is_kept (Ok body.Short) = FallsShort before after size
ReadsBody before after size is_kept (Err fault) = StopsBefore before after size

-- the bytes are kept, or dropped for want of memory
abbrev pub IsKeptOrNoRoom : List ℕ → Body → Type 0
IsKeptOrNoRoom bytes (body.Kept text) = text ≡ bytes
IsKeptOrNoRoom bytes body.NoRoom = Unit {0}
IsKeptOrNoRoom bytes body.Dropped = ⊥
IsKeptOrNoRoom bytes body.Short = ⊥
