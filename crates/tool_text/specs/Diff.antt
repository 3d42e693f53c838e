-- Unified diffs of two texts.
use Rattle.std.specs.Prelude.{◌≡◌, ◌⊎◌, ◌+◌, ◌-◌, ◌<◌, ◌≤◌, ◌==◌, ℕ, Bool, true, List, [], ◌∷◌}
use Rattle.std.specs.Prelude.{◌++◌, Some, codes, decimal, drop, map, if◌then◌else◌, length, take, Contains, nat_eq, not, slice_get}
use Rattle.std.specs.List.{All, AllPairs, count_by, flat_map, ends_with, onto_first, position_or_len}
use Rattle.std.specs.Cmp.Lexicographic.{pointwise}
use Rattle.base_files.specs.declared.place.Span.{Span}
use Rattle.tool_text.specs.Positions.{is_line_feed}
use Rattle.tool_text.specs.declared.script.LinePair.{LinePair}

-- Whether both lines of the pair are the same.
abbrev pub is_even : LinePair → Bool
is_even pair = pointwise ◌==◌ pair.old.now pair.new.now

-- The line is the first of the text, with its line feed, and the rest is what follows it.
pub record TakesLine (text line rest : List ℕ) : Type 0 where
  pub is_line : line ≡ take (position_or_len is_line_feed text + 1) text
  pub is_rest : rest ≡ drop (position_or_len is_line_feed text + 1) text

-- The lines of a text, each with its line feed.
abbrev pub lines_of : List ℕ → List (List ℕ)
lines_of [] = []
lines_of (byte ∷ text) = if is_line_feed byte then (byte ∷ []) ∷ lines_of text else onto_first byte (lines_of text)

-- The old lines and the new ones side by side. Where one text has no more lines, no bytes stand beside those of the other.
abbrev pub side_by_side : (olds news : List (List ℕ)) → List (List ℕ × List ℕ)
side_by_side [] news = map (λ new. ([], new)) news
side_by_side (old ∷ olds) [] = (old, []) ∷ map (λ old. (old, [])) olds
side_by_side (old ∷ olds) (new ∷ news) = (old, new) ∷ side_by_side olds news

-- Both lines of each pair.
abbrev pub both_lines : List LinePair → List (List ℕ × List ℕ)
both_lines = map (λ (pair : LinePair). (pair.old.now, pair.new.now))

-- These are the lines of both texts side by side. Those of each, one after another, are the text.
pub record ArePairs (old new : List ℕ) (pairs : List LinePair) : Type 0 where
  pub lines : both_lines pairs ≡ side_by_side (lines_of old) (lines_of new)
  pub olds : flat_map (λ pair. pair.old.now) pairs ≡ old
  pub news : flat_map (λ pair. pair.new.now) pairs ≡ new

-- The pair of this number, if there is one, has the same line twice.
abbrev pub IsEvenAt : List LinePair → ℕ → Type 0
IsEvenAt pairs number = (pair : LinePair) → slice_get pairs number ≡ Some pair → is_even pair ≡ true

-- The pair of this number lies in one of the hunks.
abbrev pub IsInHunk : List Span → ℕ → Type 0
IsInHunk hunks number = (hunk : Span) × Contains hunks hunk × (hunk.start ≤ number) × (number < hunk.end)

-- The hunks lie within so many pairs.
abbrev pub AreHunksWithin : ℕ → List Span → Type 0
AreHunksWithin count hunks = All (λ (hunk : Span). (hunk.start ≤ hunk.end) × (hunk.end ≤ count)) hunks

-- Each hunk ends before the next one begins, or there.
abbrev pub AreHunksInOrder : List Span → Type 0
AreHunksInOrder = AllPairs (λ (hunk next : Span). hunk.end ≤ next.start)

-- The hunks lie within the pairs, one behind another, and each pair of two lines that differ lies in a hunk. So whoever has the old text has
-- the new one: outside the hunks each line is that of the old text.
pub record AreHunks (pairs : List LinePair) (hunks : List Span) : Type 0 where
  pub within : AreHunksWithin (length pairs) hunks
  pub ordered : AreHunksInOrder hunks
  pub others : (number : ℕ) → number < length pairs → IsEvenAt pairs number ⊎ IsInHunk hunks number

-- What follows a line of a hunk: nothing behind a line feed, else a line feed and a note.
abbrev pub line_end : List ℕ → List ℕ
line_end line = if ends_with nat_eq line (10 ∷ []) then [] else codes "\n\\ No newline at end of file\n"

-- A line of a hunk behind its sign. An empty line is left out.
abbrev pub signed_line : ℕ → List ℕ → List ℕ
signed_line sign line = if length line == 0 then [] else sign ∷ (line ++ line_end line)

-- The lines of a hunk behind lines that are removed and lines that are added. Of lines that follow each other, those that are removed come
-- first.
abbrev pub hunk_lines : (removed added : List ℕ) → List LinePair → List ℕ
hunk_lines removed added [] = removed ++ added
hunk_lines removed added (pair ∷ pairs) =
    if is_even pair
    then removed ++ (added ++ (signed_line 32 pair.old.now ++ hunk_lines [] [] pairs))
    else hunk_lines (removed ++ signed_line 45 pair.old.now) (added ++ signed_line 43 pair.new.now) pairs

-- Where lines begin and how many there are. Lines count from 1; where there are none, the line before is named.
abbrev pub range_text : (start count : ℕ) → List ℕ
range_text start count = decimal (if count == 0 then start else start + 1) ++ (44 ∷ decimal count)

-- The head of a hunk: where its lines begin in both texts, and how many there are.
abbrev pub hunk_head : (start olds news : ℕ) → List ℕ
hunk_head start olds news = codes "@@ -" ++ (range_text start olds ++ (codes " +" ++ (range_text start news ++ codes " @@\n")))

-- How many lines of the old text and of the new one the pairs have.
abbrev pub old_count : List LinePair → ℕ
old_count = count_by (λ pair. not (length pair.old.now == 0))

abbrev pub new_count : List LinePair → ℕ
new_count = count_by (λ pair. not (length pair.new.now == 0))

-- A hunk whose first pair has the number `start`.
abbrev pub hunk_text : ℕ → List LinePair → List ℕ
hunk_text start pairs = hunk_head start (old_count pairs) (new_count pairs) ++ hunk_lines [] [] pairs

-- The paths of both files.
abbrev pub paths_text : (old_path new_path : List ℕ) → List ℕ
paths_text old_path new_path = codes "--- a/" ++ (old_path ++ (codes "\n+++ b/" ++ (new_path ++ (10 ∷ []))))

-- The hunks, one after another.
abbrev pub hunks_text : List LinePair → List Span → List ℕ
hunks_text pairs hunks = flat_map (λ hunk. hunk_text hunk.start (take (hunk.end - hunk.start) (drop hunk.start pairs))) hunks

-- The text is a diff of the two files.
pub record IsDiff (old_path new_path old new text : List ℕ) : Type 0 where
  pub pairs : List LinePair
  pub lines : ArePairs old new pairs
  pub hunks : List Span
  pub cover : AreHunks pairs hunks
  pub is_text : text ≡ paths_text old_path new_path ++ hunks_text pairs hunks
