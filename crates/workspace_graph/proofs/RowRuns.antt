-- Rows that are added several at once, from those that stand between others' bounds.
use Rattle.std.proofs.Common.{◌≡◌, ℕ, zero, suc, ◌+◌, ◌-◌, ◌<◌, ◌≤◌, List, [], ◌∷◌, ◌++◌, length, map, get_or, take, drop, refl, sym, ap, subst, ◌∙◌}
use Rattle.std.proofs.Common.{⊎_elim, arith}
use Rattle.std.specs.List.{All, slice_range}
use Rattle.std.proofs.Math.Seq.{drop-append_seam}
use Rattle.std.proofs.lemmas.Bool.{cases_lt}
use Rattle.std.proofs.lemmas.List.{drop-drop, drop-map, drop-take, drop_more, get_or-map, get_or-take, get_or_append_left}
use Rattle.std.proofs.lemmas.List.{get_or-append_right, get_or_default, take-append-drop}
use Rattle.std.proofs.lemmas.List.{length-append, length-map, length-take-le, same_lists, take-map, take-take}
use Rattle.std.proofs.lemmas.List.Edits.{get_or-between, length-between}
use Rattle.std.proofs.lemmas.List.Elements.{All-append}
use Rattle.workspace_graph.specs.LinkRows.{rows_of, last_bound, AreBounds}
use Rattle.workspace_graph.proofs.LinkRows.{front_range, row_between, rows_size}

-- ---- more bounds
rows_append : (bs cs ns : List ℕ) → 0 < length bs → rows_of (bs ++ cs) ns ≡ rows_of bs ns ++ rows_of (last_bound bs ∷ cs) ns
rows_append [] cs ns some = absurd (omega (arith, some))
rows_append (a ∷ []) cs ns some = refl
rows_append (a ∷ b ∷ bs) cs ns some =
    let next : length (a ∷ b ∷ bs) - 1 ≡ suc (length (b ∷ bs) - 1) = omega arith in
    let last : last_bound (a ∷ b ∷ bs) ≡ last_bound (b ∷ bs) = ap (λ k. get_or (a ∷ b ∷ bs) k 0) next in
    ap (λ g. slice_range ns a b ∷ g) (rows_append (b ∷ bs) cs ns (omega arith))
    ∙ ap (λ k. slice_range ns a b ∷ (rows_of (b ∷ bs) ns ++ rows_of (k ∷ cs) ns)) (sym last)

-- rows before stay where numbers come behind them
front_rows : (bs ns ms : List ℕ) (n : ℕ) → n ≤ length ns → ((i : ℕ) → i < length bs → get_or bs i 0 ≤ n) → rows_of bs (take n ns ++ ms) ≡ rows_of bs ns
front_rows [] ns ms n within below = refl
front_rows (a ∷ []) ns ms n within below = refl
front_rows (a ∷ b ∷ bs) ns ms n within below =
    ap (λ r. r ∷ rows_of (b ∷ bs) (take n ns ++ ms)) (front_range ns ms a b n (below 1 (omega arith)) within)
    ∙ ap (λ g. slice_range ns a b ∷ g) (front_rows (b ∷ bs) ns ms n within (λ i lt. below (suc i) (omega (arith, lt))))

-- ---- numbers that stand elsewhere, and others in their place
module _ (others front : List ℕ) (f : ℕ → ℕ) (s t p : ℕ) (at : length front ≡ p) (up : s ≤ t) where
  abbrev back : List ℕ
  back = map f (slice_range others s t)

  abbrev to : ℕ → ℕ
  to e = e - s + p

  moved_range : (d e : ℕ) → s ≤ d → d ≤ e → e ≤ t → slice_range (front ++ back) (to d) (to e) ≡ map f (slice_range others d e)
  moved_range d e low rise high =
      let where_from : to d ≡ p + (d - s) = omega arith in
      let long : to e - to d ≡ e - d = omega (arith, low, rise) in
      let split : t - s ≡ (d - s) + (t - d) = omega (arith, low, rise, high) in
      let here : s + (d - s) ≡ d = omega (arith, low) in
      let seam : drop p (front ++ back) ≡ back = ap (λ k. drop k (front ++ back)) (sym at) ∙ drop-append_seam front back in
      ap (λ k. take (to e - to d) (drop k (front ++ back))) where_from
      ∙ ap (λ k. take k (drop (p + (d - s)) (front ++ back))) long
      ∙ ap (take (e - d)) (sym (drop-drop (d - s) p (front ++ back)) ∙ ap (drop (d - s)) seam ∙ drop-map f (d - s) (slice_range others s t))
      ∙ take-map f (e - d) (drop (d - s) (slice_range others s t))
      ∙ ap (λ k. map f (take (e - d) (drop (d - s) (take k (drop s others))))) split
      ∙ ap (λ l. map f (take (e - d) l))
      (drop-take (d - s) (t - d) (drop s others) ∙ ap (take (t - d)) (drop-drop (d - s) s others ∙ ap (λ k. drop k others) here))
      ∙ ap (map f) (take-take (e - d) (t - d) (drop d others) (omega (arith, high)))

  moved_rows : (ds : List ℕ) → ((i j : ℕ) → i ≤ j → j < length ds → get_or ds i 0 ≤ get_or ds j 0) → ((i : ℕ) → i < length ds → s ≤ get_or ds i 0) →
      ((i : ℕ) → i < length ds → get_or ds i 0 ≤ t) → rows_of (map to ds) (front ++ back) ≡ map (map f) (rows_of ds others)
  moved_rows [] rise low high = refl
  moved_rows (d ∷ []) rise low high = refl
  moved_rows (d ∷ e ∷ ds) rise low high =
      ap (λ r. r ∷ rows_of (map to (e ∷ ds)) (front ++ back))
      (moved_range d e (low 0 (omega arith)) (rise 0 1 (omega arith) (omega arith)) (high 1 (omega arith)))
      ∙ ap (λ g. map f (slice_range others d e) ∷ g)
      (moved_rows (e ∷ ds) (λ i j le lt. rise (suc i) (suc j) (omega (arith, le)) (omega (arith, lt))) (λ i lt. low (suc i) (omega (arith, lt)))
      (λ i lt. high (suc i) (omega (arith, lt))))

-- ---- the bounds of some rows
bounds_from : (obs : List ℕ) (from to : ℕ) → from ≤ to → to < length obs →
    get_or obs from 0 ∷ slice_range obs (from + 1) (to + 1) ≡ slice_range obs from (to + 1)
bounds_from obs from to up within =
    let one : to + 1 - from ≡ suc (to - from) = omega (arith, up) in
    let rest : to + 1 - (from + 1) ≡ to - from = omega arith in
    ap (λ k. get_or obs from 0 ∷ take k (drop (from + 1) obs)) rest
    ∙ sym (ap (λ k. take k (drop from obs)) one ∙ ap (take (suc (to - from))) (drop_more obs from 0 (omega (arith, up, within))))

some_rows : (obs ons : List ℕ) (from to : ℕ) → from ≤ to → to < length obs →
    rows_of (slice_range obs from (to + 1)) ons ≡ slice_range (rows_of obs ons) from to
some_rows obs ons from to up within =
    let ds = slice_range obs from (to + 1) in
    let long = length-between obs from (to + 1) (omega (arith, within)) in
    let size = rows_size ds ons in
    let all = rows_size obs ons in
    let part = length-between (rows_of obs ons) from to (omega (arith, all, within)) in
    same_lists (rows_of ds ons) (slice_range (rows_of obs ons) from to) (omega (arith, long, size, part, up))
    (λ k d lt.
    let in_ds : k + 1 < length ds = omega (arith, lt, size) in
    let in_obs : from + k + 1 < length obs = omega (arith, in_ds, long, within) in
    let first = get_or-between obs from (to + 1) k 0 (omega (arith, in_ds, long)) in
    let second = get_or-between obs from (to + 1) (k + 1) 0 (omega (arith, in_ds, long)) in
    let next : from + (k + 1) ≡ from + k + 1 = omega arith in
    let here = row_between ds ons k in_ds in
    let there = row_between obs ons (from + k) in_obs in
    let end = length-between obs from (to + 1) (omega (arith, within)) in
    let in_part : from + k < to = omega (arith, in_ds, end, up) in
    get_or_default (rows_of ds ons) k d [] lt ∙ here
    ∙ ap (λ a. slice_range ons a (get_or ds (k + 1) 0)) first
    ∙ ap (λ b. slice_range ons (get_or obs (from + k) 0) b) (second ∙ ap (λ i. get_or obs i 0) next)
    ∙ sym there ∙ sym (get_or-between (rows_of obs ons) from to k [] in_part)
    ∙ get_or_default (slice_range (rows_of obs ons) from to) k [] d (omega (arith, in_part, part)))

-- ---- rows of others behind those before
module _ (bs ns obs ons : List ℕ) (from to : ℕ) (are : AreBounds bs ns) (others : AreBounds obs ons) (up : from ≤ to) (within : to < length obs) where
  abbrev pub run_start : ℕ
  run_start = get_or obs from 0

  abbrev pub run_end : ℕ
  run_end = get_or obs to 0

  abbrev pub run_bounds : List ℕ
  run_bounds = slice_range obs (from + 1) (to + 1)

  abbrev last : ℕ
  last = last_bound bs

  abbrev g : ℕ → ℕ
  g e = e - run_start + last

  pub run_up : run_start ≤ run_end
  run_up = others.rising from to up within

  pub run_within : run_end ≤ length ons
  run_within = let far = others.rising to (length obs - 1) (omega (arith, within)) (omega (arith, within)) in omega (arith, far, others.within)

  run_size : length run_bounds ≡ to - from
  run_size = let long = length-between obs (from + 1) (to + 1) (omega (arith, within)) in omega (arith, long)

  run_at : (i : ℕ) → i < length run_bounds → get_or run_bounds i 0 ≡ get_or obs (from + 1 + i) 0
  run_at i lt = get_or-between obs (from + 1) (to + 1) i 0 (omega (arith, lt, run_size))

  pub run_low : (i : ℕ) → i < length run_bounds → run_start ≤ get_or run_bounds i 0
  run_low i lt =
      let here = run_at i lt in
      let rise = others.rising from (from + 1 + i) (omega arith) (omega (arith, lt, run_size, within)) in
      omega (arith, here, rise)

  pub run_high : (i : ℕ) → i < length run_bounds → get_or run_bounds i 0 ≤ run_end
  run_high i lt =
      let here = run_at i lt in
      let rise = others.rising (from + 1 + i) to (omega (arith, lt, run_size)) within in
      omega (arith, here, rise)

  run_rise : (i j : ℕ) → i ≤ j → j < length run_bounds → get_or run_bounds i 0 ≤ get_or run_bounds j 0
  run_rise i j le lt =
      let first = run_at i (omega (arith, le, lt)) in
      let second = run_at j lt in
      let rise = others.rising (from + 1 + i) (from + 1 + j) (omega (arith, le)) (omega (arith, lt, run_size, within)) in
      omega (arith, first, second, rise)

  -- some of the bounds of others, moved, behind those before
  module _ (k : ℕ) (some : k ≤ length run_bounds) (new : List ℕ) (long : last + (run_end - run_start) ≤ length new) where
    abbrev cs : List ℕ
    cs = map g (take k run_bounds)

    cs_size : length cs ≡ k
    cs_size = length-map (take k run_bounds) g ∙ length-take-le k run_bounds some

    cs_at : (i : ℕ) → i < k → get_or cs i 0 ≡ g (get_or run_bounds i 0)
    cs_at i lt =
        let size = length-take-le k run_bounds some in
        get_or-map g (take k run_bounds) i 0 0 (omega (arith, lt, size)) ∙ ap g (get_or-take k run_bounds i 0 lt)

    all_size : length (bs ++ cs) ≡ length bs + k
    all_size = length-append bs cs ∙ ap (λ n. length bs + n) cs_size

    in_front : (i : ℕ) → i < length bs → get_or (bs ++ cs) i 0 ≤ last
    in_front i lt =
        let here = get_or_append_left bs cs 0 i lt in
        let rise = are.rising i (length bs - 1) (omega (arith, lt)) (omega (arith, lt)) in
        omega (arith, here, rise)

    behind : (i : ℕ) → length bs ≤ i → i < length (bs ++ cs) → get_or (bs ++ cs) i 0 ≡ g (get_or run_bounds (i - length bs) 0)
    behind i ge lt = get_or-append_right bs cs (length bs) i 0 refl ge ∙ cs_at (i - length bs) (omega (arith, ge, lt, all_size))

    below : (i : ℕ) → i < length (bs ++ cs) → get_or (bs ++ cs) i 0 ≤ length new
    below i lt = ⊎_elim
        (λ (l : i < length bs). omega (arith, in_front i l, long))
        (λ (ge : length bs ≤ i).
        let here = behind i ge lt in
        let high = run_high (i - length bs) (omega (arith, ge, lt, all_size, some)) in
        omega (arith, here, high, run_up, long))
        (cases_lt i (length bs))

    pub bounds_more : AreBounds (bs ++ cs) new
    bounds_more = record {
      some = omega (arith, all_size, are.some);
      rising = λ i j le lt. ⊎_elim
          (λ (l : j < length bs).
          let first = get_or_append_left bs cs 0 i (omega (arith, le, l)) in
          let second = get_or_append_left bs cs 0 j l in
          let rise = are.rising i j le l in
          omega (arith, first, second, rise))
          (λ (ge : length bs ≤ j).
          let second = behind j ge lt in
          ⊎_elim
          (λ (l : i < length bs). omega (arith, in_front i l, second))
          (λ (before : length bs ≤ i).
          let first = behind i before (omega (arith, le, lt)) in
          let rise = run_rise (i - length bs) (j - length bs) (omega (arith, le)) (omega (arith, ge, lt, all_size, some)) in
          omega (arith, first, second, rise))
          (cases_lt i (length bs)))
          (cases_lt j (length bs));
      within = below (length (bs ++ cs) - 1) (omega (arith, all_size, are.some));
    }

  -- how many numbers there are then
  pub numbers_long : (f : ℕ → ℕ) (new : List ℕ) → new ≡ take last ns ++ map f (slice_range ons run_start run_end) → length new ≡ last + (run_end - run_start)
  numbers_long f new is =
      let front = length-take-le last ns are.within in
      let size = length-append (take last ns) (map f (slice_range ons run_start run_end)) in
      let part = length-map (slice_range ons run_start run_end) f in
      let long = length-between ons run_start run_end run_within in
      let same = ap length is in
      omega (arith, same, size, front, part, long)

  -- all of them
  pub rows_more : (f : ℕ → ℕ) (new : List ℕ) → new ≡ take last ns ++ map f (slice_range ons run_start run_end) →
      rows_of (bs ++ map g run_bounds) new ≡ rows_of bs ns ++ map (map f) (slice_range (rows_of obs ons) from to)
  rows_more f new is =
      let all = take last ns ++ map f (slice_range ons run_start run_end) in
      let ds = slice_range obs from (to + 1) in
      let long = length-between obs from (to + 1) (omega (arith, within)) in
      let at : (i : ℕ) → i < length ds → get_or ds i 0 ≡ get_or obs (from + i) 0 = λ i lt. get_or-between obs from (to + 1) i 0 (omega (arith, lt, long)) in
      let first : last ≡ g run_start = omega arith in
      let moved = moved_rows ons (take last ns) f run_start run_end last (length-take-le last ns are.within) run_up ds
      (λ i j le lt.
      let a = at i (omega (arith, le, lt)) in
      let b = at j lt in
      let rise = others.rising (from + i) (from + j) (omega (arith, le)) (omega (arith, lt, long, within)) in
      omega (arith, a, b, rise))
      (λ i lt. let a = at i lt in let rise = others.rising from (from + i) (omega arith) (omega (arith, lt, long, within)) in omega (arith, a, rise))
      (λ i lt. let a = at i lt in let rise = others.rising (from + i) to (omega (arith, lt, long)) within in omega (arith, a, rise)) in
      ap (rows_of (bs ++ map g run_bounds)) is
      ∙ rows_append bs (map g run_bounds) all are.some
      ∙ ap (λ r. r ++ rows_of (last ∷ map g run_bounds) all)
      (front_rows bs ns (map f (slice_range ons run_start run_end)) last are.within
      (λ i lt. are.rising i (length bs - 1) (omega (arith, lt)) (omega (arith, lt))))
      ∙ ap (λ r. rows_of bs ns ++ r)
      (ap (λ k. rows_of (k ∷ map g run_bounds) all) first ∙ ap (λ l. rows_of (map g l) all) (bounds_from obs from to up within)
      ∙ moved ∙ ap (map (map f)) (some_rows obs ons from to up within))

-- If `P` holds for each number of each row, it holds for the numbers between two bounds.
pub numbers_between : (P : ℕ → Type 0) (obs ons : List ℕ) → AreBounds obs ons → All (All P) (rows_of obs ons) → (n from : ℕ) → from + n < length obs →
    All P (slice_range ons (get_or obs from 0) (get_or obs (from + n) 0))
numbers_between P obs ons are all zero from within = λ k d lt.
    let e : from + 0 ≡ from = omega arith in
    let none : get_or obs (from + 0) 0 - get_or obs from 0 ≡ 0 = (let same = ap (λ i. get_or obs i 0) e in omega (arith, same)) in
    let size = ap (λ m. length (take m (drop (get_or obs from 0) ons))) none in
    absurd (omega (arith, lt, size))
numbers_between P obs ons are all (suc n) from within =
    let next : from + suc n ≡ from + n + 1 = omega arith in
    let a = get_or obs from 0 in
    let b = get_or obs (from + n) 0 in
    let c = get_or obs (from + n + 1) 0 in
    let first = are.rising from (from + n) (omega arith) (omega (arith, within)) in
    let second = are.rising (from + n) (from + n + 1) (omega arith) (omega (arith, within)) in
    let rest = numbers_between P obs ons are all n from (omega (arith, within)) in
    let size = rows_size obs ons in
    let row = subst (All P) (row_between obs ons (from + n) (omega (arith, within))) (all (from + n) [] (omega (arith, within, size))) in
    subst (λ i. All P (slice_range ons a (get_or obs i 0))) (sym next)
    (subst (All P) (sym (range_split ons a b c first second)) (All-append P (slice_range ons a b) (slice_range ons b c) rest row))
  where
    range_split : (xs : List ℕ) (a b c : ℕ) → a ≤ b → b ≤ c → slice_range xs a c ≡ slice_range xs a b ++ slice_range xs b c
    range_split xs a b c ab bc =
        let n = b - a in
        let m = c - b in
        let l = drop a xs in
        let long : c - a ≡ n + m = omega (arith, ab, bc) in
        let here : a + n ≡ b = omega (arith, ab) in
        ap (λ k. take k l) long ∙ sym (take-append-drop n (take (n + m) l))
        ∙ ap (λ x. x ++ drop n (take (n + m) l)) (take-take n (n + m) l (omega arith))
        ∙ ap (λ y. take n l ++ y) (drop-take n m l ∙ ap (take m) (drop-drop n a xs ∙ ap (λ k. drop k xs) here))
