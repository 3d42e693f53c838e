-- Edits of one text that put a name at an offset, at once or in two steps.
use Rattle.std.specs.Prelude.{ℕ, ◌≡◌, ◌+◌, ◌<◌, List, [], ◌∷◌, ◌++◌, find, length, map}
use Rattle.base_edits.specs.Edits.{AreInOrder, LieWithin, edited_text}
use Rattle.base_edits.specs.Moved.{moved_offset}
use Rattle.base_edits.specs.RevisionsOfEdits.{replaces_at, text_or}
use Rattle.base_edits.specs.declared.edit.Edit.{Edit}

-- A name is put at the offset `at`, between the bytes `front` and `back`. Other edits are `before` that offset and `behind` it.
pub record NamingEdits : Type 0 where
  pub before : List Edit
  pub at : ℕ
  pub front : List ℕ
  pub own : List ℕ
  pub name : List ℕ
  pub back : List ℕ
  pub behind : List Edit

-- The edit that replaces the bytes from `start` to `end`.
abbrev pub edit_between : (start end : ℕ) → List ℕ → Edit
edit_between start end text = record { span = record { start = start; end = end }; text = text }

-- The edit where `size` more bytes come before it.
abbrev pub later_edit : ℕ → Edit → Edit
later_edit size e = edit_between (e.span.start + size) (e.span.end + size) e.text

-- The bytes that the first step puts in.
abbrev pub put_first : NamingEdits → List ℕ
put_first n = n.front ++ (n.own ++ n.back)

-- The edits at once.
abbrev pub at_once : NamingEdits → List Edit
at_once n = n.before ++ edit_between n.at n.at (n.front ++ (n.name ++ n.back)) ∷ n.behind

-- The first step: another name is put at the offset.
abbrev pub first_step : NamingEdits → List Edit
first_step n = edit_between n.at n.at (put_first n) ∷ []

-- The second step: that name is replaced, and the other edits are made.
abbrev pub second_step : NamingEdits → List Edit
second_step n =
    n.before ++ edit_between (n.at + length n.front) ((n.at + length n.front) + length n.own) n.name ∷ map (later_edit (length (put_first n))) n.behind

-- The other edits are before the offset or behind it, and in order. The name that is replaced has some byte.
pub record AreNaming (n : NamingEdits) : Type 0 where
  pub in_order : AreInOrder 0 (at_once n)
  pub named : 0 < length n.own

abbrev pub TextsInTwoSteps : Type 0
TextsInTwoSteps = (n : NamingEdits) (text : List ℕ) → AreNaming n → LieWithin (length text) (at_once n) →
    edited_text (second_step n) (edited_text (first_step n) text) ≡ edited_text (at_once n) text

abbrev pub OffsetsInTwoSteps : Type 0
OffsetsInTwoSteps = (n : NamingEdits) (offset : ℕ) → AreNaming n →
    moved_offset (second_step n) (moved_offset (first_step n) offset) ≡ moved_offset (at_once n) offset

abbrev pub NamesInTwoSteps : Type 0
NamesInTwoSteps = (n : NamingEdits) (offset : ℕ) (old : List ℕ) → AreNaming n →
    text_or old (find (replaces_at (moved_offset (first_step n) offset)) (second_step n)) ≡ text_or old (find (replaces_at offset) (at_once n))
