-- Frames: a header, and the body whose length it says. `before` and `after` are the bytes that the reader has left, where they are known.
use Rattle.std.specs.Prelude.{ℕ, ◌≡◌, ◌<◌, ◌≤◌, ◌⊎◌, List, [], ◌++◌, length, Option, None, Some, IfSome, Result, Ok, Err}
use Rattle.std.specs.Io.KnownBytes.{Consumes}
use Rattle.server_read.specs.Bodies.{FallsShort, ReadsBytes}
use Rattle.server_read.specs.Stops.{StopsBefore}
use Rattle.server_read.specs.declared.body.Body.{Body}
use Rattle.server_read.specs.declared.body.Body.TheVariants as body
use Rattle.server_read.specs.declared.input.InputFault.{InputFault}
use Rattle.lsp_frames.specs.Heads.{IsCutHead, ReadsSaid, SaysHead, StopsInHead}
use Rattle.lsp_frames.specs.declared.frames.Frame.{Frame}
use Rattle.lsp_frames.specs.declared.frames.Frame.TheVariants as frame

-- The frame with this body.
abbrev pub frame_with : Body → Frame
frame_with (body.Kept text) = frame.Body text
frame_with body.Dropped = frame.TooLarge
frame_with body.NoRoom = frame.NoRoom
frame_with body.Short = frame.End

-- Reading what stands behind a header that says this size. A body of more than 8388608 bytes is dropped.
abbrev pub ReadsSized : ℕ → (before after : Option (List ℕ)) → Result Frame InputFault → Type 0
ReadsSized size before after (Ok (frame.Body text)) = (size ≤ 8388608) × (length text ≡ size) × Consumes before after text
ReadsSized size before after (Ok frame.TooLarge) = (8388608 < size) × ReadsBytes before after size
ReadsSized size before after (Ok frame.NoRoom) = (size ≤ 8388608) × ReadsBytes before after size
ReadsSized size before after (Ok frame.End) = FallsShort before after size
ReadsSized size before after (Ok frame.NoLength) = ⊥
ReadsSized size before after (Err fault) = StopsBefore before after size

-- The input begins with a header that says a size, and what stands behind it is read.
abbrev pub ReadsBehind : (input : List ℕ) → (after : Option (List ℕ)) → Result Frame InputFault → Type 0
ReadsBehind input after came = (size : ℕ) × (rest : List ℕ) × SaysHead input (Some size) rest × ReadsSized size (Some rest) after came

-- Reading a frame: a header that gives no length, or a header and what stands behind it. It ends where the input does. A fault stops in a
-- line of the header, or in the body.
abbrev pub ReadsFrame : (before after : Option (List ℕ)) → Result Frame InputFault → Type 0
ReadsFrame before after (Ok frame.End) = IfSome before (λ input. (IsCutHead input × (after ≡ Some [])) ⊎ ReadsBehind input after (Ok frame.End))
ReadsFrame before after (Ok frame.NoLength) = ReadsSaid None before after
ReadsFrame before after (Ok frame.TooLarge) = IfSome before (λ input. ReadsBehind input after (Ok frame.TooLarge))
ReadsFrame before after (Ok frame.NoRoom) = IfSome before (λ input. ReadsBehind input after (Ok frame.NoRoom))
ReadsFrame before after (Ok (frame.Body text)) = IfSome before (λ input. ReadsBehind input after (Ok (frame.Body text)))
ReadsFrame before after (Err fault) = StopsInHead before after ⊎ IfSome before (λ input. ReadsBehind input after (Err fault))
