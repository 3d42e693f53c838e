-- Full chunks with the last items behind them.
use Rattle.std.proofs.Common.{◌≡◌, ℕ, ◌+◌, ◌-◌, ◌*◌, ◌/◌, ◌%◌, ◌<◌, ◌≤◌, List, [], ◌∷◌, ◌++◌, length, get_or, set, sym, ap, ◌∙◌, append_assoc, append-nil}
use Rattle.std.proofs.Common.{arith}
use Rattle.std.proofs.lemmas.List.{get_or_append_left, get_or-append_right, set-append_left, set-append_right}
use Rattle.base_chunks.specs.Chunks.{joined, AreFull}
use Rattle.base_lemmas.proofs.EachElement.{all_append}
use Rattle.base_chunks.proofs.Joining.{joined_append, full_length, full_get, full_set}

cut_at : (i : ℕ) → i ≡ 64 * (i / 64) + i % 64
cut_at i = omega arith

module _ {X : Type 0} (full : List (List X)) (last : List X) (h : AreFull full) where
  within_full : (i : ℕ) → i / 64 < length full → i < length (joined full)
  within_full i lt =
      let size = full_length full h in
      omega (arith, size)

  pub get_in_full : (i : ℕ) (d : X) → i / 64 < length full → get_or (get_or full (i / 64) []) (i % 64) d ≡ get_or (joined full ++ last) i d
  get_in_full i d lt =
      sym (get_or_append_left (joined full) last d i (within_full i lt)
      ∙ ap (λ j. get_or (joined full) j d) (cut_at i) ∙ full_get full (i / 64) (i % 64) d h lt (omega arith))

  pub get_behind : (i : ℕ) (d : X) → length full ≤ i / 64 → get_or last (i - 64 * length full) d ≡ get_or (joined full ++ last) i d
  get_behind i d le = sym (get_or-append_right (joined full) last (64 * length full) i d (full_length full h) (omega arith))

  pub set_in_full : (i : ℕ) (x : X) → i / 64 < length full
      → joined (set full (i / 64) (set (get_or full (i / 64) []) (i % 64) x)) ++ last ≡ set (joined full ++ last) i x
  set_in_full i x lt =
      sym (set-append_left (joined full) last i x (within_full i lt)
      ∙ ap (λ xs. xs ++ last) (ap (λ j. set (joined full) j x) (cut_at i) ∙ full_set full (i / 64) (i % 64) x h lt (omega arith)))

  pub set_behind : (i : ℕ) (x : X) → length full ≤ i / 64 → joined full ++ set last (i - 64 * length full) x ≡ set (joined full ++ last) i x
  set_behind i x le = sym (set-append_right (joined full) last (64 * length full) i x (full_length full h) (omega arith))

  -- The last items and one more, which fill a chunk.
  pub filled_up : (x : X) → joined (full ++ (last ++ x ∷ []) ∷ []) ++ [] ≡ (joined full ++ last) ++ x ∷ []
  filled_up x =
      append-nil (joined (full ++ (last ++ x ∷ []) ∷ []))
      ∙ joined_append full ((last ++ x ∷ []) ∷ [])
      ∙ ap (λ xs. joined full ++ xs) (append-nil (last ++ x ∷ []))
      ∙ sym (append_assoc (joined full) last (x ∷ []))

  pub still_full : (c : List X) → length c ≡ 64 → AreFull (full ++ c ∷ [])
  still_full c e = all_append (λ d. length d ≡ 64) full (c ∷ []) h (e, tt)
