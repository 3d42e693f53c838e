-- The edits of one text. An edit is a span of old bytes and the new bytes that replace it.
use Rattle.std.specs.Prelude.{ℕ, ◌≤◌, List, [], ◌∷◌, ◌++◌, drop}
use Rattle.std.specs.List.{slice_range, All}
use Rattle.base_edits.specs.declared.edit.Edit.{Edit}

-- The spans are in order from the offset on: each begins at or behind the end of the span before it, and none ends before its own start.
abbrev pub AreInOrder : ℕ → List Edit → Type 0
AreInOrder at [] = Unit {0}
AreInOrder at (e ∷ edits) = (at ≤ e.span.start) × (e.span.start ≤ e.span.end) × AreInOrder e.span.end edits

-- All spans end within a text of `size` bytes.
abbrev pub LieWithin : ℕ → List Edit → Type 0
LieWithin size edits = All (λ e. e.span.end ≤ size) edits

-- The new text from an old offset on: each span's new bytes replace it, and the bytes between the spans stay.
abbrev pub edited_from : ℕ → List Edit → List ℕ → List ℕ
edited_from at [] text = drop at text
edited_from at (e ∷ edits) text = slice_range text at e.span.start ++ (e.text ++ edited_from e.span.end edits text)

-- The text after the edits.
abbrev pub edited_text : List Edit → List ℕ → List ℕ
edited_text = edited_from 0
