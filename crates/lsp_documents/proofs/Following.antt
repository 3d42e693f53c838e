-- Content changes, one after another.
use Rattle.std.proofs.Common.{◌≡◌, ◌∙◌, ◌<◌, ◌+◌, length, get_or, ℕ, List, [], ◌∷◌, ◌++◌, Option, None, Some, drop, take, refl, sym, subst, arith}
use Rattle.std.proofs.lemmas.List.{take_more}
use Rattle.lsp_position.specs.Offsets.{IsOffsetAt}
use Rattle.lsp_position.specs.declared.units.PositionEncoding.{PositionEncoding}
use Rattle.lsp_position.specs.declared.positions.EditorPosition.{EditorPosition}
use Rattle.lsp_position.proofs.Rising.{order_kept, same_place}
use Rattle.lsp_documents.specs.Changes.{ChangeMakes, ChangesMake, PartMakes}
use Rattle.lsp_documents.specs.Laws.{ChangesMakeOneText, OrderedPartsMakeTexts}
use Rattle.lsp_documents.specs.declared.changes.ChangedPart.{ChangedPart}
use Rattle.lsp_documents.specs.declared.changes.TextChange.{TextChange}
use Rattle.lsp_documents.specs.declared.changes.TextChange.TheVariants.{Part, Whole}

module _ (encoding : PositionEncoding) where
  -- one change more
  pub follows : (text : Option (List ℕ)) (changes : List TextChange) (mid : Option (List ℕ)) (change : TextChange) (made : Option (List ℕ))
      → ChangesMake encoding text changes mid → ChangeMakes encoding mid change made → ChangesMake encoding text (changes ++ change ∷ []) made
  follows text [] mid change made h k = (made, subst (λ t. ChangeMakes encoding t change made) h k, refl)
  follows text (first ∷ changes) mid change made h k = (h.0, h.1, follows h.0 changes mid change made h.2 k)

  -- the same for the change of an index
  pub follows_at : (text : Option (List ℕ)) (changes : List TextChange) (index : ℕ) (default : TextChange) (mid made : Option (List ℕ))
      → index < length changes → ChangesMake encoding text (take index changes) mid → ChangeMakes encoding mid (get_or changes index default) made
      → ChangesMake encoding text (take (index + 1) changes) made
  follows_at text changes index default mid made below h k =
      subst (λ l. ChangesMake encoding text l made) (sym (take_more changes index default below))
      (follows text (take index changes) mid (get_or changes index default) made h k)

  one_offset : (text : List ℕ) (at : EditorPosition) (a b : ℕ) → IsOffsetAt encoding text at a → IsOffsetAt encoding text at b → a ≡ b
  one_offset text at a b h k =
      let low = order_kept encoding text at at a b (same_place at) h k in
      let high = order_kept encoding text at at b a (same_place at) k h in
      omega (arith, low, high)

  one_part : (text : List ℕ) (part : ChangedPart) (a b : Option (List ℕ)) → PartMakes encoding text part a → PartMakes encoding text part b → a ≡ b
  one_part text part (Some a) (Some b) h k =
      let low : h.0 ≡ k.0 = one_offset text part.start h.0 k.0 h.2 k.2 in
      let high : h.1 ≡ k.1 = one_offset text part.end h.1 k.1 h.3 k.3 in
      let same : take h.0 text ++ (part.text.now ++ drop h.1 text) ≡ take k.0 text ++ (part.text.now ++ drop k.1 text) = rw (low, high) refl in
      let made : a ≡ b = h.5 ∙ same ∙ sym k.5 in
      rw made refl
  one_part text part (Some a) None h k =
      let low : h.0 ≡ k.0 = one_offset text part.start h.0 k.0 h.2 k.2 in
      let high : h.1 ≡ k.1 = one_offset text part.end h.1 k.1 h.3 k.3 in
      let up = h.4 in
      let down = k.4 in
      absurd (omega (arith, low, high, up, down))
  one_part text part None (Some b) h k =
      let low : h.0 ≡ k.0 = one_offset text part.start h.0 k.0 h.2 k.2 in
      let high : h.1 ≡ k.1 = one_offset text part.end h.1 k.1 h.3 k.3 in
      let down = h.4 in
      let up = k.4 in
      absurd (omega (arith, low, high, up, down))
  one_part text part None None h k = refl

  one_change : (text : Option (List ℕ)) (change : TextChange) (a b : Option (List ℕ))
      → ChangeMakes encoding text change a → ChangeMakes encoding text change b → a ≡ b
  one_change text (Whole new) a b h k = h ∙ sym k
  one_change (Some text) (Part part) a b h k = one_part text part a b h k
  one_change None (Part part) a b h k = h ∙ sym k

  all_one : (text : Option (List ℕ)) (changes : List TextChange) (a b : Option (List ℕ))
      → ChangesMake encoding text changes a → ChangesMake encoding text changes b → a ≡ b
  all_one text [] a b h k = h ∙ sym k
  all_one text (change ∷ changes) a b h k =
      let same : h.0 ≡ k.0 = one_change text change h.0 k.0 h.1 k.1 in
      all_one h.0 changes a b h.2 (subst (λ next. ChangesMake encoding next changes b) (sym same) k.2)

pub one_text : ChangesMakeOneText
one_text encoding text changes a b h k = all_one encoding text changes a b h k

pub ordered_made : OrderedPartsMakeTexts
ordered_made encoding text part later h =
    let up = order_kept encoding text part.start part.end h.0 h.1 later h.2 h.3 in
    let down = h.4 in
    omega (arith, up, down)
