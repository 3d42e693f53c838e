-- Finding, setting and removing an entry, by the place of its key among the entries.
use Rattle.std.proofs.Common.{◌≡◌, ℕ, zero, suc, ◌<◌, Bool, true, false, cond, not, ◌&&◌, List, [], ◌∷◌, ◌++◌, length, get_or, take, drop, Some, None, refl}
use Rattle.std.proofs.Common.{sym, ap, ◌∙◌, true≢false, IsTrue, arith}
use Rattle.std.specs.Ordering.{is_lt, is_eq, is_gt, ordering_reverse}
use Rattle.std.specs.declared.cmp.Ordering.{Ordering}
use Rattle.std.specs.declared.cmp.Ordering.TheVariants.{Less, Equal, Greater}
use Rattle.std.specs.Cmp.{IsTotalOrder, alike_right}
use Rattle.std.specs.FinMap.{find, put, is_sorted}
use Rattle.std.specs.FinMap.Entries.{below_all, by_order}
use Rattle.std.specs.List.{AllByRecursion}
use Rattle.std.proofs.lemmas.List.Elements.{filter-append}
use Rattle.std.proofs.lemmas.Bool.{and_parts}
use Rattle.base_lemmas.proofs.Tests.{less_from_test}
use Rattle.base_lemmas.proofs.EachElement.{all_append, all_front}
use Rattle.base_chunks.specs.Entries.{without, Rises, IsAfterAll, IsBeforeAll, is_before, is_after, is_at}

equal : (r : Ordering) → is_eq r ≡ true → r ≡ Equal
equal Less h = absurd (true≢false (sym h))
equal Equal h = refl
equal Greater h = absurd (true≢false (sym h))

greater : (r : Ordering) → is_gt r ≡ true → r ≡ Greater
greater Less h = absurd (true≢false (sym h))
greater Equal h = absurd (true≢false (sym h))
greater Greater h = refl

neither : (r : Ordering) → is_gt r ≡ false → is_eq r ≡ false → r ≡ Less
neither Less g e = refl
neither Equal g e = absurd (true≢false e)
neither Greater g e = absurd (true≢false g)

not_less : (r : Ordering) → is_gt r ≡ true → is_lt r ≡ false
not_less Less h = absurd (true≢false (sym h))
not_less Equal h = refl
not_less Greater h = refl

module _ {K : Type 0} {R : K → K → Ordering} (o : IsTotalOrder R) where
  below : (x k e : K) (r : Ordering) → R k e ≡ r → is_lt r ≡ false → R x e ≡ Less → R x k ≡ Less
  below x k e Less q n p = absurd (true≢false n)
  below x k e Equal q n p = alike_right o k e x q ∙ p
  below x k e Greater q n p = o.trans x e k p (o.antisymm e k ∙ ap ordering_reverse q)

  -- a key that is not below another is above what the other is above
  above : (x k e : K) → R x e ≡ Less → is_lt (R k e) ≡ false → R k x ≡ Greater
  above x k e p n = o.antisymm k x ∙ ap ordering_reverse (below x k e (R k e) refl n p)

module _ {K X : Type 0} (R : K → K → Ordering) where
  before_all : (k : K) (es : List (K × X)) → below_all R k es ≡ true → IsBeforeAll R k es
  before_all k [] h = tt
  before_all k (e ∷ es) h =
      let p = and_parts (is_lt (R k e.0)) (below_all R k es) h in
      (less_from_test (R k e.0) p.0, before_all k es p.1)

  pub rises : (es : List (K × X)) → IsTrue (is_sorted R es) → Rises R es
  rises [] h = tt
  rises (e ∷ es) h =
      let p = and_parts (below_all R e.0 es) (is_sorted R es) h in
      (before_all e.0 es p.0, rises es p.1)

  pub rises_back : (xs ys : List (K × X)) → Rises R (xs ++ ys) → Rises R ys
  rises_back [] ys h = h
  rises_back (x ∷ xs) ys h = rises_back xs ys h.1

  pub rises_front : (xs ys : List (K × X)) → Rises R (xs ++ ys) → Rises R xs
  rises_front [] ys h = tt
  rises_front (x ∷ xs) ys h = (all_front (λ e. R x.0 e.0 ≡ Less) xs ys h.0, rises_front xs ys h.1)

  before_middle : (k : K) (xs : List (K × X)) (e : K × X) (ys : List (K × X)) → IsBeforeAll R k (xs ++ e ∷ ys) → R k e.0 ≡ Less
  before_middle k [] e ys h = h.0
  before_middle k (x ∷ xs) e ys h = before_middle k xs e ys h.1

  before_at : (k : K) (es : List (K × X)) (m : ℕ) (d : K × X) → m < length es → IsBeforeAll R k es → R k (get_or es m d).0 ≡ Less
  before_at k [] m d lt h = absurd (omega arith)
  before_at k (e ∷ es) zero d lt h = h.0
  before_at k (e ∷ es) (suc m) d lt h = before_at k es m d (omega arith) h.1

  put_after : (k : K) (v : X) (xs ys : List (K × X)) → IsAfterAll R k xs → put R k v (xs ++ ys) ≡ xs ++ put R k v ys
  put_after k v [] ys h = refl
  put_after k v (x ∷ xs) ys h =
      ap (λ r. by_order r ((k, v) ∷ x ∷ (xs ++ ys)) ((x.0, v) ∷ (xs ++ ys)) (x ∷ put R k v (xs ++ ys))) h.0
      ∙ ap (λ es. x ∷ es) (put_after k v xs ys h.1)

  pub put_first : (k : K) (v : X) (ys : List (K × X)) → IsBeforeAll R k ys → put R k v ys ≡ (k, v) ∷ ys
  put_first k v [] h = refl
  put_first k v (y ∷ ys) h = ap (λ r. by_order r ((k, v) ∷ y ∷ ys) ((y.0, v) ∷ ys) (y ∷ put R k v ys)) h.0

  put_before : (k : K) (v : X) (xs ys : List (K × X)) → IsBeforeAll R k ys → put R k v (xs ++ ys) ≡ put R k v xs ++ ys
  put_before k v [] ys h = put_first k v ys h
  put_before k v (x ∷ xs) ys h =
      elim (R k x.0) as (λ r. by_order r ((k, v) ∷ x ∷ (xs ++ ys)) ((x.0, v) ∷ (xs ++ ys)) (x ∷ put R k v (xs ++ ys)) ≡ by_order r ((k, v) ∷ x ∷ xs)
      ((x.0, v) ∷ xs) (x ∷ put R k v xs) ++ ys) [
        | Less ↦ refl
        | Equal ↦ refl
        | Greater ↦ ap (λ es. x ∷ es) (put_before k v xs ys h)
      ]

  -- what is set at k is set among the entries that k is not below and not above
  pub put_parts : (k : K) (v : X) (xs c ys : List (K × X)) → IsAfterAll R k xs → IsBeforeAll R k ys → put R k v (xs ++ (c ++ ys)) ≡ xs ++ (put R k v c ++ ys)
  put_parts k v xs c ys f g = put_after k v xs (c ++ ys) f ∙ ap (λ es. xs ++ es) (put_before k v c ys g)

  find_after : (k : K) (xs ys : List (K × X)) → IsAfterAll R k xs → find R k (xs ++ ys) ≡ find R k ys
  find_after k [] ys h = refl
  find_after k (x ∷ xs) ys h = ap (λ r. cond (is_eq r) (Some x.1) (find R k (xs ++ ys))) h.0 ∙ find_after k xs ys h.1

  find_none : (k : K) (ys : List (K × X)) → IsBeforeAll R k ys → find R k ys ≡ None
  find_none k [] h = refl
  find_none k (y ∷ ys) h = ap (λ r. cond (is_eq r) (Some y.1) (find R k ys)) h.0 ∙ find_none k ys h.1

  find_before : (k : K) (xs ys : List (K × X)) → IsBeforeAll R k ys → find R k (xs ++ ys) ≡ find R k xs
  find_before k [] ys h = find_none k ys h
  find_before k (x ∷ xs) ys h = ap (λ o. cond (is_eq (R k x.0)) (Some x.1) o) (find_before k xs ys h)

  pub find_parts : (k : K) (xs c ys : List (K × X)) → IsAfterAll R k xs → IsBeforeAll R k ys → find R k (xs ++ (c ++ ys)) ≡ find R k c
  find_parts k xs c ys f g = find_after k xs (c ++ ys) f ∙ find_before k c ys g

  without_after : (k : K) (xs : List (K × X)) → IsAfterAll R k xs → without R k xs ≡ xs
  without_after k [] h = refl
  without_after k (x ∷ xs) h =
      ap (λ r. cond (not (is_eq r)) (x ∷ without R k xs) (without R k xs)) h.0 ∙ ap (λ es. x ∷ es) (without_after k xs h.1)

  without_before : (k : K) (xs : List (K × X)) → IsBeforeAll R k xs → without R k xs ≡ xs
  without_before k [] h = refl
  without_before k (x ∷ xs) h =
      ap (λ r. cond (not (is_eq r)) (x ∷ without R k xs) (without R k xs)) h.0 ∙ ap (λ es. x ∷ es) (without_before k xs h.1)

  pub without_parts : (k : K) (xs c ys : List (K × X)) → IsAfterAll R k xs → IsBeforeAll R k ys → without R k (xs ++ (c ++ ys)) ≡ xs ++ (without R k c ++ ys)
  without_parts k xs c ys f g =
      filter-append (λ e. not (is_eq (R k e.0))) xs (c ++ ys)
      ∙ (λ i. without_after k xs f i ++ filter-append (λ e. not (is_eq (R k e.0))) c ys i)
      ∙ ap (λ es. xs ++ (without R k c ++ es)) (without_before k ys g)

  -- the key does not stand before the m-th entry
  pub not_after_at : (k : K) (es : List (K × X)) (m : ℕ) (d : K × X) → m < length es → is_gt (R k (get_or es m d).0) ≡ false → is_after R k (drop m es) ≡ false
  not_after_at k [] m d lt h = absurd (omega arith)
  not_after_at k (e ∷ es) zero d lt h = h
  not_after_at k (e ∷ es) (suc m) d lt h = not_after_at k es m d (omega arith) h

  pub is_at_at : (k : K) (es : List (K × X)) (m : ℕ) (d : K × X) → m < length es → is_at R k (drop m es) ≡ is_eq (R k (get_or es m d).0)
  is_at_at k [] m d lt = absurd (omega arith)
  is_at_at k (e ∷ es) zero d lt = refl
  is_at_at k (e ∷ es) (suc m) d lt = is_at_at k es m d (omega arith)

  pub find_there : (k : K) (es : List (K × X)) (m : ℕ) (d : K × X) → IsAfterAll R k (take m es) → is_at R k (drop m es) ≡ true →
      find R k es ≡ Some (get_or es m d).1
  find_there k [] zero d f h = absurd (true≢false (sym h))
  find_there k [] (suc m) d f h = absurd (true≢false (sym h))
  find_there k (e ∷ es) zero d f h = ap (λ b. cond b (Some e.1) (find R k es)) h
  find_there k (e ∷ es) (suc m) d f h = ap (λ r. cond (is_eq r) (Some e.1) (find R k es)) f.0 ∙ find_there k es m d f.1 h

  pub put_there : (k : K) (v : X) (es : List (K × X)) (m : ℕ) (d : K × X) → IsAfterAll R k (take m es) → is_at R k (drop m es) ≡ true
      → put R k v es ≡ take m es ++ ((get_or es m d).0, v) ∷ drop (suc m) es
  put_there k v [] zero d f h = absurd (true≢false (sym h))
  put_there k v [] (suc m) d f h = absurd (true≢false (sym h))
  put_there k v (e ∷ es) zero d f h = ap (λ r. by_order r ((k, v) ∷ e ∷ es) ((e.0, v) ∷ es) (e ∷ put R k v es)) (equal (R k e.0) h)
  put_there k v (e ∷ es) (suc m) d f h =
      ap (λ r. by_order r ((k, v) ∷ e ∷ es) ((e.0, v) ∷ es) (e ∷ put R k v es)) f.0
      ∙ ap (λ fs. e ∷ fs) (put_there k v es m d f.1 h)

  pub put_gap : (k : K) (v : X) (es : List (K × X)) (m : ℕ) → IsAfterAll R k (take m es) → is_after R k (drop m es) ≡ false → is_at R k (drop m es) ≡ false
      → put R k v es ≡ take m es ++ (k, v) ∷ drop m es
  put_gap k v [] zero f g h = refl
  put_gap k v [] (suc m) f g h = refl
  put_gap k v (e ∷ es) zero f g h = ap (λ r. by_order r ((k, v) ∷ e ∷ es) ((e.0, v) ∷ es) (e ∷ put R k v es)) (neither (R k e.0) g h)
  put_gap k v (e ∷ es) (suc m) f g h =
      ap (λ r. by_order r ((k, v) ∷ e ∷ es) ((e.0, v) ∷ es) (e ∷ put R k v es)) f.0
      ∙ ap (λ fs. e ∷ fs) (put_gap k v es m f.1 g h)

  module _ (o : IsTotalOrder R) where
    before_less : (k j : K) (es : List (K × X)) → R k j ≡ Less → IsBeforeAll R j es → IsBeforeAll R k es
    before_less k j [] p h = tt
    before_less k j (e ∷ es) p h = (o.trans k j e.0 p h.0, before_less k j es p h.1)

    before_tied : (k j : K) (es : List (K × X)) → R k j ≡ Equal → IsBeforeAll R j es → IsBeforeAll R k es
    before_tied k j [] p h = tt
    before_tied k j (e ∷ es) p h = (o.congr k j e.0 p ∙ h.0, before_tied k j es p h.1)

    after_all : (k : K) (xs : List (K × X)) (e : K × X) (ys : List (K × X)) → Rises R (xs ++ e ∷ ys) → is_lt (R k e.0) ≡ false → IsAfterAll R k xs
    after_all k [] e ys h n = tt
    after_all k (x ∷ xs) e ys h n = (above o x.0 k e.0 (before_middle x.0 xs e ys h.0) n, after_all k xs e ys h.1 n)

    -- the m-th entry stands before the key, and so do those before it
    pub after_upto : (k : K) (es : List (K × X)) (m : ℕ) (d : K × X) → Rises R es → m < length es → is_gt (R k (get_or es m d).0) ≡ true →
        IsAfterAll R k (take (suc m) es)
    after_upto k [] m d h lt g = absurd (omega arith)
    after_upto k (e ∷ es) zero d h lt g = (greater (R k e.0) g, tt)
    after_upto k (e ∷ es) (suc m) d h lt g =
        let within : m < length es = omega arith in
        (above o e.0 k (get_or es m d).0 (before_at e.0 es m d within h.0) (not_less (R k (get_or es m d).0) g), after_upto k es m d h.1 within g)

    -- a key that is not below a part's first is above all before that part
    pub after_part : (k : K) (xs c ys : List (K × X)) → Rises R (xs ++ (c ++ ys)) → 0 < length c → is_before R k c ≡ false → IsAfterAll R k xs
    after_part k xs [] ys h some n = absurd (omega arith)
    after_part k xs (e ∷ es) ys h some n = after_all k xs e (es ++ ys) h n

    pub before_part : (k : K) (xs c ys : List (K × X)) → Rises R (xs ++ (c ++ ys)) → is_before R k c ≡ true → IsBeforeAll R k (c ++ ys)
    before_part k xs [] ys h b = absurd (true≢false (sym b))
    before_part k xs (e ∷ es) ys h b =
        let r = rises_back xs (e ∷ (es ++ ys)) h in
        (less_from_test (R k e.0) b, before_less k e.0 (es ++ ys) (less_from_test (R k e.0) b) r.0)

    all_before : (k : K) (e : K × X) (es : List (K × X)) → Rises R (e ∷ es) → R k e.0 ≡ Less → IsBeforeAll R k (e ∷ es)
    all_before k e es h p = (p, before_less k e.0 es p h.0)

    pub find_absent : (k : K) (es : List (K × X)) (m : ℕ) → Rises R es → IsAfterAll R k (take m es) → is_after R k (drop m es) ≡ false →
        is_at R k (drop m es) ≡ false
        → find R k es ≡ None
    find_absent k [] m h f g n = refl
    find_absent k (e ∷ es) zero h f g n = find_none k (e ∷ es) (all_before k e es h (neither (R k e.0) g n))
    find_absent k (e ∷ es) (suc m) h f g n = ap (λ r. cond (is_eq r) (Some e.1) (find R k es)) f.0 ∙ find_absent k es m h.1 f.1 g n

    pub without_there : (k : K) (es : List (K × X)) (m : ℕ) → Rises R es → IsAfterAll R k (take m es) → is_at R k (drop m es) ≡ true
        → without R k es ≡ take m es ++ drop (suc m) es
    without_there k [] zero h f n = absurd (true≢false (sym n))
    without_there k [] (suc m) h f n = absurd (true≢false (sym n))
    without_there k (e ∷ es) zero h f n =
        ap (λ b. cond (not b) (e ∷ without R k es) (without R k es)) n
        ∙ without_before k es (before_tied k e.0 es (equal (R k e.0) n) h.0)
    without_there k (e ∷ es) (suc m) h f n =
        ap (λ r. cond (not (is_eq r)) (e ∷ without R k es) (without R k es)) f.0
        ∙ ap (λ fs. e ∷ fs) (without_there k es m h.1 f.1 n)

    pub without_gap : (k : K) (es : List (K × X)) (m : ℕ) → Rises R es → IsAfterAll R k (take m es) → is_after R k (drop m es) ≡ false →
        is_at R k (drop m es) ≡ false
        → without R k es ≡ take m es ++ drop m es
    without_gap k [] zero h f g n = refl
    without_gap k [] (suc m) h f g n = refl
    without_gap k (e ∷ es) zero h f g n = without_before k (e ∷ es) (all_before k e es h (neither (R k e.0) g n))
    without_gap k (e ∷ es) (suc m) h f g n =
        ap (λ r. cond (not (is_eq r)) (e ∷ without R k es) (without R k es)) f.0
        ∙ ap (λ fs. e ∷ fs) (without_gap k es m h.1 f.1 g n)
