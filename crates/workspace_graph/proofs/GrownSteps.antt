-- The rows after the insertion of a package, made one run after another.
use Rattle.std.proofs.Common.{◌≡◌, ℕ, ◌+◌, ◌-◌, ◌<◌, ◌≤◌, List, [], ◌∷◌, ◌++◌, length, map, sym, ap, subst, ◌∙◌, ⊎_elim, arith}
use Rattle.std.specs.List.{Contains, slice_range}
use Rattle.std.proofs.lemmas.Bool.{cases_lt}
use Rattle.std.proofs.lemmas.List.{get_or-append-add, get_or-map, get_or_append_left, length-append, length-map}
use Rattle.std.proofs.lemmas.List.Edits.{get_or-between, length-between}
use Rattle.workspace_graph.specs.Growth.{AreGrown, IsStop}
use Rattle.workspace_graph.specs.Imports.{LinkTable, row_of}
use Rattle.workspace_graph.specs.Shifts.{Splits, ShiftsRow, row_shifted, shifted}
use Rattle.workspace_graph.proofs.Shifted.{passed_over, shifted_above, shifted_apart, shifted_below, shifted_one, shifts_without}

module _ (place : ℕ) (own linked : List ℕ) (before : LinkTable) where
  pub grown_none : (rows : LinkTable) → rows ≡ [] → AreGrown place own linked before rows
  grown_none rows is = subst (AreGrown place own linked before) (sym is) (record {
    within = omega arith;
    own_row = λ lt. absurd (omega (arith, lt));
    each = λ q lt. absurd (omega (arith, lt));
  })

  -- some rows more
  grown_more : (rows more : LinkTable) → AreGrown place own linked before rows → length rows + length more ≤ length before + 1 →
      ((i : ℕ) → i < length more → length rows + i ≡ place → row_of more i ≡ own) →
      ((q i : ℕ) → i < length more → length rows + i ≡ shifted place q →
      ShiftsRow place (Contains linked (shifted place q)) (row_of before q) (row_of more i)) →
      AreGrown place own linked before (rows ++ more)
  grown_more rows more so within here each = record {
    within = omega (arith, size, within);
    own_row = λ lt. ⊎_elim
        (λ (l : place < length rows). get_or_append_left rows more [] place l ∙ so.own_row l)
        (λ (g : length rows ≤ place).
        let e : length rows + (place - length rows) ≡ place = omega (arith, g) in
        behind place (place - length rows) e ∙ here (place - length rows) (omega (arith, lt, e, size)) e)
        (cases_lt place (length rows));
    each = λ q lt. ⊎_elim
        (λ (l : shifted place q < length rows). subst (ShiftsRow place (Contains linked (shifted place q)) (row_of before q))
        (sym (get_or_append_left rows more [] (shifted place q) l)) (so.each q l))
        (λ (g : length rows ≤ shifted place q).
        let e : length rows + (shifted place q - length rows) ≡ shifted place q = omega (arith, g) in
        subst (ShiftsRow place (Contains linked (shifted place q)) (row_of before q)) (sym (behind (shifted place q) (shifted place q - length rows) e))
        (each q (shifted place q - length rows) (omega (arith, lt, e, size)) e))
        (cases_lt (shifted place q) (length rows));
  }
    where
      size : length (rows ++ more) ≡ length rows + length more
      size = length-append rows more

      behind : (n i : ℕ) → length rows + i ≡ n → row_of (rows ++ more) n ≡ row_of more i
      behind n i e = ap (row_of (rows ++ more)) (sym e) ∙ get_or-append-add rows more i []

  -- that of the one that came
  pub grown_own : (rows : LinkTable) → AreGrown place own linked before rows → length rows ≡ place → length rows < length before + 1 →
      AreGrown place own linked before (rows ++ own ∷ [])
  grown_own rows so at below = grown_more rows (own ∷ []) so (omega (arith, below))
      (λ i lt e. let z : i ≡ 0 = omega (arith, lt) in ap (row_of (own ∷ [])) z)
      (λ q i lt e. let z : shifted place q ≡ place = omega (arith, lt, e, at) in absurd (shifted_apart place q z))

  -- that of another
  pub grown_one : (rows : LinkTable) (row : List ℕ) (q : ℕ) → AreGrown place own linked before rows → shifted place q ≡ length rows →
      length rows < length before + 1 → ShiftsRow place (Contains linked (length rows)) (row_of before q) row →
      AreGrown place own linked before (rows ++ row ∷ [])
  grown_one rows row q so is below shifts = grown_more rows (row ∷ []) so (omega (arith, below))
      (λ i lt e. let z : shifted place q ≡ place = omega (arith, lt, e, is) in absurd (shifted_apart place q z))
      (λ p i lt e.
      let z : i ≡ 0 = omega (arith, lt) in
      let both : shifted place p ≡ shifted place q = omega (arith, lt, e, is) in
      let same : p ≡ q = shifted_one place p q both in
      subst (λ k. ShiftsRow place (Contains linked (shifted place k)) (row_of before k) (row_of (row ∷ []) i)) (sym same)
      (subst (λ k. ShiftsRow place (Contains linked (shifted place q)) (row_of before q) (row_of (row ∷ []) k)) (sym z)
      (subst (λ k. ShiftsRow place (Contains linked k) (row_of before q) row) (sym is) shifts)))

  -- those up to a stop
  module _ (rows : LinkTable) (index from to stop : ℕ) (so : AreGrown place own linked before rows) (within : place ≤ length before)
      (passed : Splits linked index (length rows)) (stops : IsStop place (length before + 1) linked index (length rows) stop)
      (from_upto : length rows ≤ place → from ≡ length rows) (from_above : place < length rows → from + 1 ≡ length rows)
      (to_upto : stop ≤ place → to ≡ stop) (to_above : place < stop → to + 1 ≡ stop) where
    abbrev n : ℕ
    n = length rows

    record Fits : Type 0 where
      pub up : from ≤ to
      pub inside : to ≤ length before
      pub long : n + (to - from) ≡ stop
      pub apart : (i : ℕ) → n + i < stop → n + i ≡ place → ⊥
      pub at : (i : ℕ) → n + i < stop → shifted place (from + i) ≡ n + i

    fits : Fits
    fits = ⊎_elim
        (λ (h : place < n).
        let f = from_above h in
        let t = to_above (omega (arith, h, stops.from)) in
        record {
          up = omega (arith, f, t, stops.from);
          inside = omega (arith, t, stops.within);
          long = omega (arith, f, t, stops.from);
          apart = λ i lt e. absurd (omega (arith, h, e));
          at = λ i lt. let s = shifted_above place (from + i) (omega (arith, f, h)) in omega (arith, s, f);
        })
        (λ (h : n ≤ place).
        let f = from_upto h in
        let low = stops.upto_place h in
        let t = to_upto low in
        record {
          up = omega (arith, f, t, stops.from);
          inside = omega (arith, t, low, within);
          long = omega (arith, f, t, stops.from);
          apart = λ i lt e. absurd (omega (arith, lt, low, e));
          at = λ i lt. let s = shifted_below place (from + i) (omega (arith, f, lt, low)) in omega (arith, s, f);
        })
        (cases_lt place n)

    pub run_up : from ≤ to
    run_up = fits.up

    pub run_inside : to ≤ length before
    run_inside = fits.inside

    abbrev more : LinkTable
    more = map (row_shifted place) (slice_range before from to)

    more_size : length more ≡ to - from
    more_size = length-map (slice_range before from to) (row_shifted place) ∙ length-between before from to fits.inside

    pub run_count : length (rows ++ more) ≡ stop
    run_count = let size = length-append rows more in omega (arith, size, more_size, fits.long, fits.up)

    more_at : (i : ℕ) → i < length more → row_of more i ≡ row_shifted place (row_of before (from + i))
    more_at i lt =
        let size = length-between before from to fits.inside in
        get_or-map (row_shifted place) (slice_range before from to) i [] [] (omega (arith, lt, more_size, size))
        ∙ ap (row_shifted place) (get_or-between before from to i [] (omega (arith, lt, more_size, fits.up)))

    pub grown_run : AreGrown place own linked before (rows ++ more)
    grown_run = grown_more rows more so (omega (arith, more_size, fits.long, fits.up, stops.within))
        (λ i lt e. absurd (fits.apart i (omega (arith, lt, more_size, fits.long, fits.up)) e))
        (λ q i lt e.
        let low : n + i < stop = omega (arith, lt, more_size, fits.long, fits.up) in
        let same : q ≡ from + i = shifted_one place q (from + i) (sym e ∙ sym (fits.at i low)) in
        let is : row_of more i ≡ row_shifted place (row_of before q) = more_at i lt ∙ ap (λ k. row_shifted place (row_of before k)) (sym same) in
        subst (ShiftsRow place (Contains linked (shifted place q)) (row_of before q)) (sym is)
        (shifts_without place (Contains linked (shifted place q)) (row_of before q)
        (λ has. passed_over linked index n stop (n + i) passed stops.passed (omega arith) low (subst (Contains linked) (sym e) has))))
