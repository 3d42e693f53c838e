-- Frames: the header and the text of a value.
use Rattle.std.specs.Prelude.{ℕ, ◌≡◌, ◌≤◌, ◌++◌, false, List, codes, decimal, length, Some}
use Rattle.serde_json.specs.Data.{Data, depth}
use Rattle.serde_json.specs.Read.{max_depth, read}
use Rattle.serde_json.specs.Written.{compact_text, has_float}

-- A body with its header.
abbrev pub frame_of : List ℕ → List ℕ
frame_of body = codes "Content-Length: " ++ (decimal (length body) ++ (codes "\r\n\r\n" ++ body))

-- The bytes are the header and a text of this value. The text is the one without spaces where the value has no float. It is read as the value,
-- where that nests no deeper than what is read.
pub record IsFrameOf (value : Data) (bytes : List ℕ) : Type 0 where
  pub body : List ℕ
  pub framed : bytes ≡ frame_of body
  pub text : has_float value ≡ false → body ≡ compact_text value
  pub reads_back : depth value ≤ max_depth → read body ≡ Some value
