-- Lists in chunks, cut at one of the chunks.
use Rattle.std.proofs.Common.{◌≡◌, ℕ, zero, suc, ◌+◌, ◌*◌, ◌<◌, ◌≤◌, List, [], ◌∷◌, ◌++◌, length, get_or, take, drop, set, ◌-◌, refl, sym, ap, ◌∙◌, subst}
use Rattle.std.proofs.Common.{append_assoc, length-append, length-take, length-drop, take-append-drop, add-one, arith}
use Rattle.std.specs.List.{AllByRecursion}
use Rattle.std.proofs.lemmas.List.Concat.{flat_map-append}
use Rattle.std.proofs.lemmas.List.{set_split, take_all, drop_all, get_or_append_left, get_or-append_right, set-append_left, set-append_right}
use Rattle.base_chunks.specs.Chunks.{joined, AreNonempty, AreFull, ReplacesChunk}
use Rattle.base_lemmas.proofs.EachElement.{all_append}

module _ {X : Type 0} where
  pub joined_append : (bs cs : List (List X)) → joined (bs ++ cs) ≡ joined bs ++ joined cs
  joined_append bs cs = flat_map-append (λ c. c) bs cs

  -- from the m-th chunk on
  pub joined_drop : (cs : List (List X)) (m : ℕ) → joined (drop m cs) ≡ get_or cs m [] ++ joined (drop (suc m) cs)
  joined_drop [] zero = refl
  joined_drop [] (suc m) = refl
  joined_drop (c ∷ cs) zero = refl
  joined_drop (c ∷ cs) (suc m) = joined_drop cs m

  joined_cut : (cs : List (List X)) (m : ℕ) → joined cs ≡ joined (take m cs) ++ joined (drop m cs)
  joined_cut [] zero = refl
  joined_cut [] (suc m) = refl
  joined_cut (c ∷ cs) zero = refl
  joined_cut (c ∷ cs) (suc m) = ap (λ xs. c ++ xs) (joined_cut cs m) ∙ sym (append_assoc c (joined (take m cs)) (joined (drop m cs)))

  -- The items before chunk `m`, those of the chunk, and those behind it.
  pub joined_parts : (cs : List (List X)) (m : ℕ) → joined cs ≡ joined (take m cs) ++ (get_or cs m [] ++ joined (drop (suc m) cs))
  joined_parts cs m = joined_cut cs m ∙ ap (λ xs. joined (take m cs) ++ xs) (joined_drop cs m)

  pub part_length : (cs : List (List X)) (m : ℕ) → length (get_or cs m []) ≤ length (joined cs)
  part_length cs m =
      let whole = ap length (joined_parts cs m) in
      let front = length-append (joined (take m cs)) (get_or cs m [] ++ joined (drop (suc m) cs)) in
      let back = length-append (get_or cs m []) (joined (drop (suc m) cs)) in
      omega (arith, whole, front, back)

  pub all_at : (P : List X → Type 0) (cs : List (List X)) (m : ℕ) → m < length cs → AllByRecursion P cs → P (get_or cs m [])
  all_at P [] m lt h = absurd (omega arith)
  all_at P (c ∷ cs) zero lt h = h.0
  all_at P (c ∷ cs) (suc m) lt h = all_at P cs m (omega arith) h.1

  pub all_take : (P : List X → Type 0) (cs : List (List X)) (m : ℕ) → AllByRecursion P cs → AllByRecursion P (take m cs)
  all_take P cs zero h = tt
  all_take P [] (suc m) h = tt
  all_take P (c ∷ cs) (suc m) h = (h.0, all_take P cs m h.1)

  pub all_drop : (P : List X → Type 0) (cs : List (List X)) (m : ℕ) → AllByRecursion P cs → AllByRecursion P (drop m cs)
  all_drop P cs zero h = h
  all_drop P [] (suc m) h = tt
  all_drop P (c ∷ cs) (suc m) h = all_drop P cs m h.1

  pub all_set : (P : List X → Type 0) (cs : List (List X)) (m : ℕ) (d : List X) → P d → AllByRecursion P cs → AllByRecursion P (set cs m d)
  all_set P [] m d p h = tt
  all_set P (c ∷ cs) zero d p h = (p, h.1)
  all_set P (c ∷ cs) (suc m) d p h = (h.0, all_set P cs m d p h.1)

  pub full_length : (cs : List (List X)) → AreFull cs → length (joined cs) ≡ 64 * length cs
  full_length [] h = refl
  full_length (c ∷ cs) h =
      let front : length c ≡ 64 = h.0 in
      omega (arith, length-append c (joined cs), full_length cs h.1)

  -- an item of full chunks
  pub full_get : (cs : List (List X)) (q r : ℕ) (d : X) → AreFull cs → q < length cs → r < 64 → get_or (joined cs) (64 * q + r) d ≡ get_or (get_or cs q []) r d
  full_get [] q r d h lt s = absurd (omega arith)
  full_get (c ∷ cs) zero r d h lt s =
      let size : length c ≡ 64 = h.0 in
      let place : 64 * zero + r ≡ r = omega arith in
      let within : r < length c = omega arith in
      ap (λ i. get_or (c ++ joined cs) i d) place ∙ get_or_append_left c (joined cs) d r within
  full_get (c ∷ cs) (suc q) r d h lt s =
      let past : 64 ≤ 64 * suc q + r = omega arith in
      let place : 64 * suc q + r - 64 ≡ 64 * q + r = omega arith in
      get_or-append_right c (joined cs) 64 (64 * suc q + r) d h.0 past
      ∙ ap (λ i. get_or (joined cs) i d) place ∙ full_get cs q r d h.1 (omega arith) s

  -- Setting an item of full chunks sets it in its chunk.
  pub full_set : (cs : List (List X)) (q r : ℕ) (x : X) → AreFull cs → q < length cs → r < 64
      → set (joined cs) (64 * q + r) x ≡ joined (set cs q (set (get_or cs q []) r x))
  full_set [] q r x h lt s = absurd (omega arith)
  full_set (c ∷ cs) zero r x h lt s =
      let size : length c ≡ 64 = h.0 in
      let place : 64 * zero + r ≡ r = omega arith in
      let within : r < length c = omega arith in
      ap (λ i. set (c ++ joined cs) i x) place ∙ set-append_left c (joined cs) r x within
  full_set (c ∷ cs) (suc q) r x h lt s =
      let past : 64 ≤ 64 * suc q + r = omega arith in
      let place : 64 * suc q + r - 64 ≡ 64 * q + r = omega arith in
      set-append_right c (joined cs) 64 (64 * suc q + r) x h.0 past
      ∙ ap (λ i. c ++ set (joined cs) i x) place ∙ ap (λ xs. c ++ xs) (full_set cs q r x h.1 (omega arith) s)

  -- one chunk, or two, in place of the i-th, and one behind all
  pub one_at : (cs : List (List X)) (i : ℕ) (a : List X) → i < length cs → set cs i a ≡ take i cs ++ a ∷ drop (i + 1) cs
  one_at cs i a lt = set_split cs i a lt ∙ ap (λ j. take i cs ++ a ∷ drop j cs) (sym (add-one i))

  pub one_behind : (cs : List (List X)) (i : ℕ) (a : List X) → length cs ≤ i → cs ++ a ∷ [] ≡ take i cs ++ a ∷ drop (i + 1) cs
  one_behind cs i a le =
      let front : take i cs ≡ cs = take_all i cs le in
      let back : drop (i + 1) cs ≡ [] = drop_all (i + 1) cs (omega arith) in
      λ j. sym front j ++ a ∷ sym back j

  two_at_suc : (cs : List (List X)) (i : ℕ) (a b : List X) → i < length cs →
      set (take (suc i) cs ++ b ∷ drop (suc i) cs) i a ≡ take i cs ++ a ∷ b ∷ drop (suc i) cs
  two_at_suc [] i a b lt = absurd (omega arith)
  two_at_suc (c ∷ cs) zero a b lt = refl
  two_at_suc (c ∷ cs) (suc i) a b lt = ap (λ xs. c ∷ xs) (two_at_suc cs i a b (omega arith))

  pub two_at : (cs : List (List X)) (i : ℕ) (a b : List X) → i < length cs →
      set (take (i + 1) cs ++ b ∷ drop (i + 1) cs) i a ≡ take i cs ++ a ∷ b ∷ drop (i + 1) cs
  two_at cs i a b lt =
      let same = add-one i in
      subst (λ j. set (take j cs ++ b ∷ drop j cs) i a ≡ take i cs ++ a ∷ b ∷ drop j cs) (sym same) (two_at_suc cs i a b lt)

  -- a chunk taken out
  pub replaces_none : (old new : List (List X)) (i : ℕ) → new ≡ take i old ++ drop (i + 1) old → ReplacesChunk old new i []
  replaces_none old new i e = record {
    parts = ap joined e ∙ joined_append (take i old) (drop (i + 1) old);
    filled = λ h. subst AreNonempty (sym e) (all_append (λ c. 0 < length c) (take i old) (drop (i + 1) old) (all_take (λ c. 0 < length c) old i h)
        (all_drop (λ c. 0 < length c) old (i + 1) h));
  }

  pub replaces_one : (old new : List (List X)) (i : ℕ) (ws : List X) → 0 < length ws → new ≡ take i old ++ ws ∷ drop (i + 1) old → ReplacesChunk old new i ws
  replaces_one old new i ws some e = record {
    parts = ap joined e ∙ joined_append (take i old) (ws ∷ drop (i + 1) old);
    filled = λ h. subst AreNonempty (sym e) (all_append (λ c. 0 < length c) (take i old) (ws ∷ drop (i + 1) old) (all_take (λ c. 0 < length c) old i h)
        (some, all_drop (λ c. 0 < length c) old (i + 1) h));
  }

  pub replaces_set : (old : List (List X)) (i : ℕ) (c ws : List X) → i < length old → 0 < length ws → c ≡ ws → ReplacesChunk old (set old i c) i ws
  replaces_set old i c ws lt some e = replaces_one old (set old i c) i ws some (ap (set old i) e ∙ one_at old i ws lt)

  pub replaces_two : (old new : List (List X)) (i : ℕ) (ws : List X) (m : ℕ) → 0 < m → m < length ws
      → new ≡ take i old ++ take m ws ∷ drop m ws ∷ drop (i + 1) old → ReplacesChunk old new i ws
  replaces_two old new i ws m low high e = record {
    parts = ap joined e ∙ joined_append (take i old) (take m ws ∷ drop m ws ∷ drop (i + 1) old)
        ∙ ap (λ xs. joined (take i old) ++ xs) (sym (append_assoc (take m ws) (drop m ws) (joined (drop (i + 1) old))))
        ∙ ap (λ xs. joined (take i old) ++ (xs ++ joined (drop (i + 1) old))) (take-append-drop m ws);
    filled = λ h.
        let front : 0 < length (take m ws) = omega (arith, length-take m ws) in
        let back : 0 < length (drop m ws) = omega (arith, length-drop m ws) in
        subst AreNonempty (sym e) (all_append (λ c. 0 < length c) (take i old) (take m ws ∷ drop m ws ∷ drop (i + 1) old)
        (all_take (λ c. 0 < length c) old i h) (front, (back, all_drop (λ c. 0 < length c) old (i + 1) h)));
  }

  -- The number of items after the change.
  pub replaced_length : (old new : List (List X)) (i : ℕ) (ws : List X) (n : ℕ) → ReplacesChunk old new i ws
      → n + length (get_or old i []) ≡ length (joined old) + length ws → n ≡ length (joined new)
  replaced_length old new i ws n r e =
      let c = get_or old i [] in
      let before = ap length (joined_parts old i ∙ ap (λ j. joined (take i old) ++ (c ++ joined (drop j old))) (sym (add-one i))) in
      let after = ap length r.parts in
      omega (
        arith,
        before,
        after,
        e,
        length-append (joined (take i old)) (c ++ joined (drop (i + 1) old)),
        length-append c (joined (drop (i + 1) old)),
        length-append (joined (take i old)) (ws ++ joined (drop (i + 1) old)),
        length-append ws (joined (drop (i + 1) old)),
      )

  -- a chunk with one item more set in place of another
  pub set_longer : (old : List (List X)) (i : ℕ) (c : List X) → i < length old → length c ≡ length (get_or old i []) + 1
      → length (joined (set old i c)) ≡ length (joined old) + 1
  set_longer old i c lt e =
      let some : 0 < length c = omega (arith, e) in
      sym (replaced_length old (set old i c) i c (length (joined old) + 1) (replaces_set old i c c lt some refl) (omega (arith, e)))

  -- a chunk with as many items set in place of another
  pub set_as_long : (old : List (List X)) (i : ℕ) (c : List X) → i < length old → 0 < length c → length c ≡ length (get_or old i [])
      → length (joined (set old i c)) ≡ length (joined old)
  set_as_long old i c lt some e =
      sym (replaced_length old (set old i c) i c (length (joined old)) (replaces_set old i c c lt some refl) (omega (arith, e)))
