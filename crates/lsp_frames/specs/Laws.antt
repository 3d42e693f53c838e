-- Laws of frames.
use Rattle.std.specs.Prelude.{ℕ, ◌≡◌, ◌<◌, ◌^◌, ◌++◌, List, Option, Some, length}
use Rattle.lsp_message.specs.Frames.{frame_of}
use Rattle.lsp_frames.specs.Heads.{SaysHead}

-- An input begins with one header at most.
abbrev pub HeadsSayOneThing : Type 0
HeadsSayOneThing = (input : List ℕ) (a b : Option ℕ) (rest other : List ℕ) → SaysHead input a rest → SaysHead input b other
    → (a ≡ b) × (rest ≡ other)

-- The header of a frame is read, whatever follows the frame: it says the length of the body, which stands behind it.
abbrev pub FramesAreRead : Type 0
FramesAreRead = (body more : List ℕ) → length body < 2 ^ 64 → SaysHead (frame_of body ++ more) (Some (length body)) (body ++ more)
