-- One element more of a list.
use Rattle.std.proofs.Common.{ℕ, ◌≡◌, ◌∙◌, ◌<◌, ◌≤◌, ◌+◌, List, [], ◌∷◌, ◌++◌, Option, append_assoc, get_or, length, take, refl, sym, ap, subst}
use Rattle.std.specs.List.{flat_map}
use Rattle.std.proofs.lemmas.Grind.{flat_map-append}
use Rattle.std.proofs.lemmas.List.{append-nil, take_all}
use Rattle.lsp_edits.proofs.Collecting.{take_next}
use Rattle.lsp_told.specs.Listed.{AreCollected, found_list}

module _ {X Y : Type 0} (P : X → Option Y → Type 0) where
  pub listed_push : (xs : List X) (ys : List Y) (x : X) (first : Option Y) → AreCollected P xs ys → P x first
      → AreCollected P (xs ++ x ∷ []) (ys ++ found_list first)
  listed_push [] ys x first h k = (first, [], k, refl, ap (λ l. l ++ found_list first) h ∙ sym (append-nil (found_list first)))
  listed_push (e ∷ xs) ys x first h k = (
    h.0,
    h.1 ++ found_list first,
    h.2,
    listed_push xs h.1 x first h.3 k,
    ap (λ l. l ++ found_list first) h.4 ∙ append_assoc (found_list h.0) h.1 (found_list first),
  )

  pub listed_next : (xs : List X) (i : ℕ) (x : X) (ys new : List Y) (first : Option Y) → i < length xs → x ≡ get_or xs i x
      → new ≡ ys ++ found_list first → P x first → AreCollected P (take i xs) ys → AreCollected P (take (i + 1) xs) new
  listed_next xs i x ys new first below is grown k h =
      subst (λ l. AreCollected P l new) (sym (take_next xs i x below is))
      (subst (AreCollected P (take i xs ++ x ∷ [])) (sym grown) (listed_push (take i xs) ys x first h k))

  pub all_listed : (xs : List X) (i : ℕ) (ys : List Y) → length xs ≤ i → AreCollected P (take i xs) ys → AreCollected P xs ys
  all_listed xs i ys over h = subst (λ l. AreCollected P l ys) (take_all i xs over) h

  -- the same where a map gives its entries one after another
  abbrev pub LeftOf : (xs left : List X) → List Y → Type 0
  LeftOf xs left ys = (done : List X) × (xs ≡ done ++ left) × AreCollected P done ys

  pub left_first : (xs left : List X) (ys : List Y) → left ≡ xs → ys ≡ [] → LeftOf xs left ys
  left_first xs left ys all none = ([], sym all, none)

  pub left_next : (xs left rest : List X) (x : X) (ys new : List Y) (first : Option Y) → left ≡ x ∷ rest → new ≡ ys ++ found_list first → P x first
      → LeftOf xs left ys → LeftOf xs rest new
  left_next xs left rest x ys new first next grown k h = (
    h.0 ++ x ∷ [],
    h.1 ∙ ap (λ l. h.0 ++ l) next ∙ sym (append_assoc h.0 (x ∷ []) rest),
    subst (AreCollected P (h.0 ++ x ∷ [])) (sym grown) (listed_push h.0 ys x first h.2 k),
  )

  pub none_left : (xs left : List X) (ys : List Y) → left ≡ [] → LeftOf xs left ys → AreCollected P xs ys
  none_left xs left ys over h = subst (λ l. AreCollected P l ys) (sym (h.1 ∙ ap (λ l. h.0 ++ l) over ∙ append-nil h.0)) h.2

-- what is listed of each element, with one element more
pub flat_next : {X Y : Type 0} (f : X → List Y) (xs : List X) (i : ℕ) (x : X) (ys new : List Y) → i < length xs → x ≡ get_or xs i x
    → new ≡ ys ++ f x → ys ≡ flat_map f (take i xs) → new ≡ flat_map f (take (i + 1) xs)
flat_next f xs i x ys new below is grown h =
    grown
    ∙ ap (λ l. l ++ f x) h
    ∙ sym (ap (flat_map f) (take_next xs i x below is)
    ∙ flat_map-append f (take i xs) (x ∷ [])
    ∙ ap (λ l. flat_map f (take i xs) ++ l) (append-nil (f x)))
