-- Laws of headers and frames.
use Rattle.std.specs.Prelude.{ℕ, ◌≡◌, ◌<◌, ◌^◌, ◌++◌, [], ◌∷◌, List, codes, decimal, length}
use Rattle.lsp_message.specs.Frames.{frame_of}
use Rattle.lsp_message.specs.Headers.{HeaderSays}
use Rattle.lsp_message.specs.declared.header.HeaderField.{HeaderField}
use Rattle.lsp_message.specs.declared.header.HeaderField.TheVariants.{End, Length}

-- The first line of the header of a frame, with its carriage return.
abbrev pub length_line : List ℕ → List ℕ
length_line body = codes "Content-Length: " ++ (decimal (length body) ++ 13 ∷ [])

-- A frame is the line with the length, an empty line, and the body; and these lines say the length of the body and the end of the header.
abbrev pub HeadersOfFrames : Type 0
HeadersOfFrames = (body : List ℕ) → length body < 2 ^ 64
    → (frame_of body ≡ length_line body ++ 10 ∷ 13 ∷ 10 ∷ body) × HeaderSays (length_line body) (Length (length body)) × HeaderSays (13 ∷ []) End

-- A line says one thing.
abbrev pub LinesSayOneThing : Type 0
LinesSayOneThing = (line : List ℕ) (a b : HeaderField) → HeaderSays line a → HeaderSays line b → a ≡ b
