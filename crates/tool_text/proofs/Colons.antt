-- Words of places have one reading.
use Rattle.std.proofs.Common.{◌≡◌, ◌∙◌, ◌<◌, ℕ, List, [], ◌∷◌, ◌++◌, Option, None, Some, sym, subst, arith}
use Rattle.std.specs.Prelude.{MatchOption}
use Rattle.std.specs.Borrow.{Bor}
use Rattle.std.proofs.lemmas.Str.Pattern.{IsSplitOnceResult, split_parts}
use Rattle.tool_text.specs.Parts.{HasNoByte, SplitsAt}
use Rattle.tool_text.specs.Places.{HasNoNumber, HasNoPlace, HasNoPosition, HasNoSpot, IsNumberText, IsSpotWord}
use Rattle.tool_text.specs.declared.places.Spot.TheVariants.{At, Offset}
use Rattle.tool_text.proofs.Marks.{halves_unique, has_byte}

pub splits_at : (mark : ℕ) (text : List ℕ) (r : Option (Bor (List ℕ) × Bor (List ℕ))) → IsSplitOnceResult mark text r → mark < 128 → SplitsAt mark text r
splits_at mark text None h low = split_parts mark text None h low
splits_at mark text (Some x) h low = split_parts mark text (Some x) h low

-- what is so where there is nothing
pub when_none : {X : Type 0} (P : Type 0) (Q : X → Type 0) (r : Option X) → r ≡ None → P → MatchOption r P Q
when_none P Q r e p = subst (λ o. MatchOption o P Q) (sym e) p

-- a word without a colon gives no position and no place
pub colon_wanted : (text : List ℕ) → HasNoByte 58 text → HasNoPosition text
colon_wanted text bare at h = has_byte 58 h.0 h.1 (subst (HasNoByte 58) h.2 bare)

pub colon_wanted_too : (text : List ℕ) → HasNoByte 58 text → HasNoPlace text
colon_wanted_too text bare place h = has_byte 58 place.path.now h.0 (subst (HasNoByte 58) h.1 bare)

module _ (text front back : List ℕ) (cut : text ≡ front ++ 58 ∷ back) (bare : HasNoByte 58 front) where
  pub no_line : HasNoNumber front → HasNoPosition text
  no_line never at h =
      let same = halves_unique 58 h.0 h.1 front back h.3 bare (sym h.2 ∙ cut) in
      never at.line (subst (λ l. IsNumberText l at.line) same.0 h.4)

  pub no_column : HasNoNumber back → HasNoPosition text
  no_column never at h =
      let same = halves_unique 58 h.0 h.1 front back h.3 bare (sym h.2 ∙ cut) in
      never at.column (subst (λ l. IsNumberText l at.column) same.1 h.5)

  pub no_spot_behind : HasNoSpot back → HasNoPlace text
  no_spot_behind never place h =
      let same = halves_unique 58 place.path.now h.0 front back h.2 bare (sym h.1 ∙ cut) in
      never place.spot (subst (λ l. IsSpotWord l place.spot) same.1 h.3)

-- the sign `#` begins no number
hash_is_none : (digits : List ℕ) → HasNoNumber (35 ∷ digits)
hash_is_none digits n h = let low = h.0.1.0 in absurd (omega (arith, low))

no_position_behind_hash : (text digits : List ℕ) → text ≡ 35 ∷ digits → HasNoPosition text
no_position_behind_hash text digits e at h = go h.0 (sym h.2 ∙ e) h.4
  where
    go : (line : List ℕ) → line ++ 58 ∷ h.1 ≡ 35 ∷ digits → IsNumberText line at.line → ⊥
    go [] f k = let bad : ◌≡◌ {A = ℕ} 58 35 = cc in absurd (omega (arith, bad))
    go (x ∷ line) f k = let first : x ≡ 35 = cc in hash_is_none line at.line (subst (λ y. IsNumberText (y ∷ line) at.line) first k)

pub no_offset : (text digits : List ℕ) → text ≡ 35 ∷ digits → HasNoNumber digits → HasNoSpot text
no_offset text digits e never (Offset n) h =
    let same : h.0 ≡ digits = tails h.0 digits (sym h.1 ∙ e) in never n (subst (λ l. IsNumberText l n) same h.2)
  where
    tails : (xs ys : List ℕ) → 35 ∷ xs ≡ 35 ∷ ys → xs ≡ ys
    tails xs ys f = cc
no_offset text digits e never (At at) h = no_position_behind_hash text digits e at h

pub no_spot : (text : List ℕ) → ((rest : List ℕ) → text ≡ 35 ∷ rest → ⊥) → HasNoPosition text → HasNoSpot text
no_spot text hash position (Offset n) h = hash h.0 h.1
no_spot text hash position (At at) h = position at h
