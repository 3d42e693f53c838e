-- Importers, noted one row after another.
use Rattle.std.proofs.Common.{◌≡◌, ℕ, ◌+◌, ◌<◌, ◌≤◌, List, [], ◌∷◌, ◌++◌, length, get_or, take, sym, ap, subst, ◌∙◌, inl, inr, ⊎_elim, arith}
use Rattle.std.proofs.Math.ListN.{set}
use Rattle.std.specs.List.{Contains}
use Rattle.std.proofs.lemmas.Bool.{cases_lt, cases_eq}
use Rattle.std.proofs.lemmas.List.{get_or-set_same, get_or-set_other, length-set, take_more}
use Rattle.std.proofs.lemmas.List.Elements.{Contains-push, Contains-push_cases, Contains-append_left}
use Rattle.std.specs.List.Sorted.{IsStrictlyIncreasing}
use Rattle.workspace_graph.specs.Imports.{LinkTable, Imports, row_of, AddsImporter, AreImporterRows}
use Rattle.workspace_graph.proofs.OrderedPackages.{rising_push, rising_front, below_last}

-- one more package of the row
pub NotesRow-more : (old mid : LinkTable) (row : List ℕ) (i importer : ℕ) → i < length row → get_or row i 0 < length mid →
    AddsImporter old (take i row) importer mid →
    AddsImporter old (take (i + 1) row) importer (set mid (get_or row i 0) (row_of mid (get_or row i 0) ++ importer ∷ []))
NotesRow-more old mid row i importer h within s =
    let n = get_or row i 0 in
    let more : take (i + 1) row ≡ take i row ++ n ∷ [] = take_more row i 0 h in
    let new = set mid n (row_of mid n ++ importer ∷ []) in
    let here : row_of new n ≡ row_of mid n ++ importer ∷ [] = get_or-set_same mid n (row_of mid n ++ importer ∷ []) [] within in
    subst (λ (r : List ℕ). AddsImporter old r importer new) (sym more) (record {
      size = length-set mid n (row_of mid n ++ importer ∷ []) ∙ s.size;
      each = λ q p. ⊎_elim
          (λ (e : q ≡ n).
          let at : row_of new q ≡ row_of mid n ++ importer ∷ [] = ap (row_of new) e ∙ here in (
            λ c. ⊎_elim
                (λ (o : Contains (row_of mid n) p).
                let w = (s.each q p).0 (subst (λ (k : ℕ). Contains (row_of mid k) p) (sym e) o) in
                ⊎_elim (λ (a : Contains (row_of old q) p). inl a)
                (λ (a : (p ≡ importer) × Contains (take i row) q). inr (a.0, Contains-append_left (take i row) (n ∷ []) q a.1)) w)
                (λ (same : importer ≡ p). inr (sym same, subst (Contains (take i row ++ n ∷ [])) (sym e) (Contains-push (take i row) n)))
                (Contains-push_cases (row_of mid n) importer p (subst (λ (xs : List ℕ). Contains xs p) at c)),
            λ w. subst (λ (xs : List ℕ). Contains xs p) (sym at) (⊎_elim
                (λ (a : Contains (row_of old q) p). Contains-append_left (row_of mid n) (importer ∷ []) p
                (subst (λ (k : ℕ). Contains (row_of mid k) p) e ((s.each q p).1 (inl a))))
                (λ (a : (p ≡ importer) × Contains (take i row ++ n ∷ []) q).
                subst (Contains (row_of mid n ++ importer ∷ [])) (sym a.0) (Contains-push (row_of mid n) importer))
                w),
          ))
          (λ (ne : q ≡ n → ⊥).
          let at : row_of new q ≡ row_of mid q = get_or-set_other mid n q (row_of mid n ++ importer ∷ []) [] ne in (
            λ c. ⊎_elim (λ (a : Contains (row_of old q) p). inl a)
                (λ (a : (p ≡ importer) × Contains (take i row) q). inr (a.0, Contains-append_left (take i row) (n ∷ []) q a.1))
                ((s.each q p).0 (subst (λ (xs : List ℕ). Contains xs p) at c)),
            λ w. subst (λ (xs : List ℕ). Contains xs p) (sym at) (⊎_elim
                (λ (a : Contains (row_of old q) p). (s.each q p).1 (inl a))
                (λ (a : (p ≡ importer) × Contains (take i row ++ n ∷ []) q). (s.each q p).1 (inr (
                  a.0,
                  ⊎_elim (λ (o : Contains (take i row) q). o) (λ (same : n ≡ q). absurd (ne (sym same))) (Contains-push_cases (take i row) n q a.1),
                )))
                w),
          ))
          (cases_eq q n);
      rising = λ up below old_up q. (
          let rises : IsStrictlyIncreasing (take i row ++ n ∷ []) = up in
          let mid_up = s.rising (rising_front (take i row) n rises) below old_up in
          ⊎_elim
          (λ (e : q ≡ n). subst IsStrictlyIncreasing (sym (ap (row_of new) e ∙ here))
          (rising_push (row_of mid n) importer (mid_up n) (λ p c. ⊎_elim
          (λ (a : Contains (row_of old n) p). below n p a)
          (λ (a : (p ≡ importer) × Contains (take i row) n). let less = below_last (take i row) n n rises a.1 in absurd (omega (arith, less)))
          ((s.each n p).0 c))))
          (λ (ne : q ≡ n → ⊥). subst IsStrictlyIncreasing (sym (get_or-set_other mid n q (row_of mid n ++ importer ∷ []) [] ne)) (mid_up q))
          (cases_eq q n));
    })

-- one more row
pub HoldImporters-more : (g old new : LinkTable) (n : ℕ) → AreImporterRows g n old → AddsImporter old (row_of g n) n new → AreImporterRows g (n + 1) new
HoldImporters-more g old new n s r =
    record {
      size = r.size ∙ s.size;
      each = λ q p. (
        λ c. ⊎_elim
            (λ (a : Contains (row_of old q) p). let w = (s.each q p).0 a in (omega (arith, w.0), w.1))
            (λ (a : (p ≡ n) × Contains (row_of g n) q). (omega (arith, a.0), subst (λ (k : ℕ). Imports g k q) (sym a.0) a.1))
            ((r.each q p).0 c),
        λ w. ⊎_elim
            (λ (b : p < n). (r.each q p).1 (inl ((s.each q p).1 (b, w.1))))
            (λ (b : n ≤ p). let same : p ≡ n = omega (arith, w.0) in (r.each q p).1 (inr (same, subst (λ (k : ℕ). Imports g k q) same w.1)))
            (cases_lt p n),
      );
      rising = λ ups. r.rising (ups n) (λ q p c. ((s.each q p).0 c).0) (s.rising ups);
    }
