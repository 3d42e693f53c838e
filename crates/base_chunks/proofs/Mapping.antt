-- A sorted map in chunks, of which one chunk changes.
use Rattle.std.proofs.Common.{◌≡◌, ℕ, ◌+◌, ◌<◌, Bool, true, false, T, IsTrue, List, [], ◌++◌, length, get_or, take, drop, refl, sym, ap, ◌∙◌, subst, add-one}
use Rattle.std.specs.declared.cmp.Ordering.{Ordering}
use Rattle.std.specs.Ordering.{eq_by_cmp}
use Rattle.std.specs.Prelude.{not}
use Rattle.std.specs.Cmp.{IsTotalOrder}
use Rattle.std.specs.FinMap.{find, put, is_sorted}
use Rattle.std.specs.FinMap.Entries.{is_sorted-put, is_sorted-where_key}
use Rattle.base_lemmas.proofs.Tests.{true_from_T}
use Rattle.base_chunks.specs.Entries.{without, Rises, IsAfterAll, IsBeforeAll, is_before}
use Rattle.base_chunks.specs.Chunks.{joined, IsMapChunks, ReplacesChunk}
use Rattle.base_chunks.proofs.Standing.{rises, rises_front, rises_back, put_parts, find_parts, without_parts, after_part, before_part}
use Rattle.base_chunks.proofs.Joining.{joined_parts, joined_drop, all_at}

module _ {K X : Type 0} (R : K → K → Ordering) where
  part_at : (cs : List (List (K × X))) (i : ℕ) → joined cs ≡ joined (take i cs) ++ (get_or cs i [] ++ joined (drop (i + 1) cs))
  part_at cs i = joined_parts cs i ∙ ap (λ j. joined (take i cs) ++ (get_or cs i [] ++ joined (drop j cs))) (sym (add-one i))

  parts_rise : (cs : List (List (K × X))) (i : ℕ) → IsMapChunks R cs → Rises R (joined (take i cs) ++ (get_or cs i [] ++ joined (drop (i + 1) cs)))
  parts_rise cs i h = subst (Rises R) (part_at cs i) (rises R (joined cs) h.ordered)

  -- the keys of each chunk rise
  pub part_rises : (cs : List (List (K × X))) (i : ℕ) → IsMapChunks R cs → Rises R (get_or cs i [])
  part_rises cs i h =
      rises_front R (get_or cs i []) (joined (drop (i + 1) cs))
      (rises_back R (joined (take i cs)) (get_or cs i [] ++ joined (drop (i + 1) cs)) (parts_rise cs i h))

  -- where the key is not below the first of the m-th chunk, all chunks before that one are below the key
  pub after_chunk : IsTotalOrder R → (k : K) (cs : List (List (K × X))) (m : ℕ) → IsMapChunks R cs → m < length cs → is_before R k (get_or cs m []) ≡ false
      → IsAfterAll R k (joined (take m cs))
  after_chunk o k cs m h lt n =
      after_part R o k (joined (take m cs)) (get_or cs m []) (joined (drop (m + 1) cs)) (parts_rise cs m h) (all_at (λ c. 0 < length c) cs m lt h.filled) n

  -- and where it is below, all chunks from that one on are above the key
  pub before_chunk : IsTotalOrder R → (k : K) (cs : List (List (K × X))) (m : ℕ) → IsMapChunks R cs → is_before R k (get_or cs m []) ≡ true
      → IsBeforeAll R k (joined (drop m cs))
  before_chunk o k cs m h b =
      subst (IsBeforeAll R k) (ap (λ j. get_or cs m [] ++ joined (drop j cs)) (add-one m) ∙ sym (joined_drop cs m))
      (before_part R o k (joined (take m cs)) (get_or cs m []) (joined (drop (m + 1) cs)) (parts_rise cs m h) b)

  -- what is found in the chunk of a key is what is found
  pub find_in_chunk : (k : K) (cs : List (List (K × X))) (i : ℕ) → IsAfterAll R k (joined (take i cs)) → IsBeforeAll R k (joined (drop (i + 1) cs))
      → find R k (get_or cs i []) ≡ find R k (joined cs)
  find_in_chunk k cs i f g =
      sym (ap (find R k) (part_at cs i) ∙ find_parts R k (joined (take i cs)) (get_or cs i []) (joined (drop (i + 1) cs)) f g)

  -- an entry set in its chunk
  pub put_in_chunk : (k : K) (v : X) (old new : List (List (K × X))) (i : ℕ) (ws : List (K × X)) → ReplacesChunk old new i ws → ws ≡ put R k v (get_or old i [])
      → IsAfterAll R k (joined (take i old)) → IsBeforeAll R k (joined (drop (i + 1) old)) → joined new ≡ put R k v (joined old)
  put_in_chunk k v old new i ws r e f g =
      r.parts ∙ ap (λ xs. joined (take i old) ++ (xs ++ joined (drop (i + 1) old))) e
      ∙ sym (ap (put R k v) (part_at old i) ∙ put_parts R k v (joined (take i old)) (get_or old i []) (joined (drop (i + 1) old)) f g)

  -- a key taken out of its chunk
  pub without_in_chunk : (k : K) (old new : List (List (K × X))) (i : ℕ) (ws : List (K × X)) → ReplacesChunk old new i ws → ws ≡ without R k (get_or old i [])
      → IsAfterAll R k (joined (take i old)) → IsBeforeAll R k (joined (drop (i + 1) old)) → joined new ≡ without R k (joined old)
  without_in_chunk k old new i ws r e f g =
      r.parts ∙ ap (λ xs. joined (take i old) ++ (xs ++ joined (drop (i + 1) old))) e
      ∙ sym (ap (without R k) (part_at old i) ∙ without_parts R k (joined (take i old)) (get_or old i []) (joined (drop (i + 1) old)) f g)

  pub map_put : IsTotalOrder R → (k : K) (v : X) (old new : List (List (K × X))) (i : ℕ) (ws : List (K × X)) → IsMapChunks R old → ReplacesChunk old new i ws
      → joined new ≡ put R k v (joined old) → IsMapChunks R new
  map_put o k v old new i ws h r e = record {
    filled = r.filled h.filled;
    ordered = ap (is_sorted R) e ∙ true_from_T _ (is_sorted-put R o k v (joined old) (subst T (sym h.ordered) tt));
  }

  pub map_without : (k : K) (old new : List (List (K × X))) (i : ℕ) (ws : List (K × X)) → IsMapChunks R old → ReplacesChunk old new i ws
      → joined new ≡ without R k (joined old) → IsMapChunks R new
  map_without k old new i ws h r e = record {
    filled = r.filled h.filled;
    ordered = ap (is_sorted R) e ∙ true_from_T _ (is_sorted-where_key R (λ x. not (eq_by_cmp R k x)) (joined old) (subst T (sym h.ordered) tt));
  }
