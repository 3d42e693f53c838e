-- The last place at or before a position, as far as a text was searched.
use Rattle.std.proofs.Common.{◌≡◌, ◌+◌, ◌-◌, ◌<◌, ◌≤◌, ◌==◌, ◌&&◌, ltb, inl, inr, ◌↔◌, ℕ, Bool, true, false, List, length, get_or, refl, sym, subst, arith}
use Rattle.std.proofs.lemmas.List.{get_or_past}
use Rattle.std.proofs.lemmas.Bool.{and_right, both_ways, cases_lt}
use Rattle.lsp_position.specs.Units.{continues_character}
use Rattle.lsp_position.specs.Positions.{editor_position}
use Rattle.lsp_position.specs.Offsets.{IsAtOrBefore, IsLastPlace, IsOffsetAt, IsEditorPlace}
use Rattle.lsp_position.specs.declared.units.PositionEncoding.{PositionEncoding}
use Rattle.lsp_position.specs.declared.positions.EditorPosition.{EditorPosition}
use Rattle.lsp_position.proofs.Rising.{in_order, rises}

-- Of the places before `number` this is the last one at or before the position; before the first place there is none.
pub record HasFound (encoding : PositionEncoding) (text : List ℕ) (asked : EditorPosition) (number found : ℕ) : Type 0 where
  pub there : 0 < number → IsEditorPlace text found × IsAtOrBefore (editor_position encoding text found) asked
  pub last : (other : ℕ) → other < number → IsEditorPlace text other → IsAtOrBefore (editor_position encoding text other) asked → other ≤ found

-- a position that does not lie behind another is it, or lies before it
pub at_or_before : (a b : EditorPosition) (r : Bool) → ((r ≡ true) ↔ (IsAtOrBefore a b → ⊥)) → r ≡ false → IsAtOrBefore a b
at_or_before a b r decides fails = elim (cases_lt a.line b.line) [
  | inl lower ↦ inl lower
  | inr line ↦ elim (cases_lt b.line a.line) [
    | inl higher ↦ absurd (both_ways r fails (decides.1 (not_before higher)))
    | inr same ↦ elim (cases_lt b.character a.character) [
      | inl behind ↦ absurd (both_ways r fails (decides.1 (not_left behind line)))
      | inr before ↦ inr (omega (arith, line, same), before)
    ]
  ]
]
  where
    not_before : b.line < a.line → IsAtOrBefore a b → ⊥
    not_before higher (inl lower) = omega (arith, higher, lower)
    not_before higher (inr same) = let line = same.0 in omega (arith, higher, line)

    not_left : b.character < a.character → b.line ≤ a.line → IsAtOrBefore a b → ⊥
    not_left behind level (inl lower) = omega (arith, level, lower)
    not_left behind level (inr same) = let column = same.1 in omega (arith, behind, column)

begin_is_place : (text : List ℕ) → IsEditorPlace text 0
begin_is_place text = (omega arith, inl refl)

begin_is_first : (a : EditorPosition) (encoding : PositionEncoding) (text : List ℕ) → IsAtOrBefore (editor_position encoding text 0) a
begin_is_first a encoding text = elim (cases_lt 0 a.line) [
  | inl more ↦ inl more
  | inr none ↦ let zero_is : 0 ≡ a.line = omega (arith, none) in inr (zero_is, omega arith)
]

end_is_place : (text : List ℕ) → IsEditorPlace text (length text)
end_is_place text =
    let none : get_or text (length text) 0 ≡ 0 = get_or_past text (length text) 0 (omega arith) in
    let no_feed : (get_or text (length text) 0 == 10) ≡ false = rw none refl in
    let whole : continues_character (get_or text (length text) 0) ≡ false = rw none refl in
    let return_last : Bool = get_or text (length text - 1) 0 == 13 in (
      omega arith,
      inr (
        whole,
        and_right (ltb 0 (length text)) (return_last && (get_or text (length text) 0 == 10))
            (and_right return_last (get_or text (length text) 0 == 10) no_feed),
      ),
    )

module _ (encoding : PositionEncoding) (text : List ℕ) (asked : EditorPosition) where
  pub found_none : HasFound encoding text asked 0 0
  found_none = record { there = λ h. absurd (omega (arith, h)); last = λ other h _ _. absurd (omega (arith, h)) }

  pub found_more : (number found last : ℕ) → HasFound encoding text asked number found → IsAtOrBefore (editor_position encoding text number) asked
      → IsLastPlace text number found last → HasFound encoding text asked (number + 1) last
  found_more number found last so_far at (inl here) =
      let same = sym here.0 in
      record {
        there = λ _. (subst (IsEditorPlace text) same here.1, subst (λ n. IsAtOrBefore (editor_position encoding text n) asked) same at);
        last = λ other h _ _. omega (arith, h, same);
      }
  found_more number found last so_far at (inr not_here) =
      let same = sym not_here.0 in
      let some : 0 < number = elim (cases_lt 0 number) [
        | inl more ↦ more
        | inr none ↦ let zero_is : 0 ≡ number = omega (arith, none) in absurd (not_here.1 (subst (IsEditorPlace text) zero_is (begin_is_place text)))
      ] in
      record {
        there = λ _. subst (λ n. IsEditorPlace text n × IsAtOrBefore (editor_position encoding text n) asked) same (so_far.there some);
        last = λ other h place reached. elim (cases_lt other number) [
          | inl before ↦ let low = so_far.last other before place reached in omega (arith, low, same)
          | inr behind ↦ let here : other ≡ number = omega (arith, h, behind) in absurd (not_here.1 (subst (IsEditorPlace text) here place))
        ];
      }

  -- where the position at a number lies behind the asked one, the search is over
  pub found_is_last : (number found : ℕ) → number ≤ length text → HasFound encoding text asked number found
      → (IsAtOrBefore (editor_position encoding text number) asked → ⊥) → IsOffsetAt encoding text asked found
  found_is_last number found within so_far behind =
      let some : 0 < number = elim (cases_lt 0 number) [
        | inl more ↦ more
        | inr none ↦ let zero_is : 0 ≡ number = omega (arith, none) in
            absurd (behind (subst (λ n. IsAtOrBefore (editor_position encoding text n) asked) zero_is (begin_is_first asked encoding text)))
      ] in
      record {
        place = (so_far.there some).0;
        reached = (so_far.there some).1;
        last = λ other place reached. elim (cases_lt other number) [
          | inl before ↦ so_far.last other before place reached
          | inr later ↦ absurd (behind (in_order (editor_position encoding text number) (editor_position encoding text other) asked
              (rises encoding text number other later place.0) reached))
        ];
      }

  pub end_is_last : IsAtOrBefore (editor_position encoding text (length text)) asked → IsOffsetAt encoding text asked (length text)
  end_is_last at = record { place = end_is_place text; reached = at; last = λ other place _. place.0 }
