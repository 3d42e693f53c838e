-- Marks of numbers: those below a bound, those that a number links to, and those reached from there.
use Rattle.std.proofs.Common.{ℕ, ◌≡◌, ◌+◌, ◌<◌, inl, inr, Bool, true, false, List, [], ◌∷◌, ◌++◌, length, get_or, ap, sym, subst, ◌∙◌, arith}
use Rattle.std.specs.Prelude.{Contains, ◌↔◌}
use Rattle.std.specs.Global.{Vec}
use Rattle.std.proofs.Math.ListN.{set, replicate}
use Rattle.std.proofs.lemmas.Bool.{cases_lt, cases_eq, false≢true}
use Rattle.std.proofs.lemmas.List.{get_or-set_same, length-set, length-replicate, get_or-replicate, get_or_read, get_or_append_left, get_or_push, length_push}
use Rattle.types_declared.specs.Reachability.{HasMark, LinksTo, IsReachable, first, behind}
use Rattle.types_members.specs.Cycles.{IsOnCycle}
use Rattle.types_declared.proofs.ReachableParts.{marked_within, marked_stays, marked_before, IsPassed, passed_next, passed_more, passed_held, passed_all}

-- the list marks exactly the items below count with the property P
pub record MarksBelow (P : ℕ → Type 0) (marks : List Bool) (count : ℕ) : Type 0 where
  pub all : length marks ≡ count
  pub each : (item : ℕ) → item < count → HasMark marks item ↔ P item

pub marks_none : (P : ℕ → Type 0) (marks : List Bool) → marks ≡ [] → MarksBelow P marks 0
marks_none P marks e = record { all = ap length e; each = λ i lt. absurd (omega arith) }

pub marks_next : (P : ℕ → Type 0) (old new : List Bool) (count : ℕ) (b : Bool) → new ≡ old ++ (b ∷ []) → (b ≡ true) ↔ P count → MarksBelow P old count →
    MarksBelow P new (count + 1)
marks_next P old new count b e is h =
    let len : length (old ++ (b ∷ [])) ≡ length old + 1 = length_push old b in
    record {
      all = ap length e ∙ len ∙ ap (λ n. n + 1) h.all;
      each = λ i lt. elim (cases_lt i count) [
        | inl below ↦ (
            let same : get_or new i false ≡ get_or old i false = ap (λ xs. get_or xs i false) e ∙
            get_or_append_left old (b ∷ []) false i (omega (arith, h.all)) in
            ((λ m. (h.each i below).0 (sym same ∙ m)), (λ p. same ∙ (h.each i below).1 p)))
        | inr ge ↦ (
            let last : i ≡ count = omega arith in
            let here : get_or new i false ≡ b = ap (λ xs. get_or xs i false) e ∙ get_or_push old b false i (omega (arith, h.all)) in
            ((λ m. subst P (sym last) (is.0 (sym here ∙ m))), (λ p. here ∙ is.1 (subst P last p))))
      ];
    }

-- a list of false values marks no number
unmarked : (n : ℕ) (marks : List Bool) → marks ≡ replicate n false → (q : ℕ) → HasMark marks q → ⊥
unmarked n marks e q m =
    let lt : q < length (replicate n false) = subst (λ xs. q < length xs) e (marked_within marks q m) in
    false≢true (sym (ap (λ xs. get_or xs q false) e ∙ get_or-replicate n q false false (subst (λ k. q < k) (length-replicate n false) lt)) ∙ m)

-- A search from the numbers that a number links to

reached_as : (links : List (Vec ℕ)) (B C : ℕ → Type 0) (q : ℕ) → ((x : ℕ) → B x → C x) → IsReachable links B q → IsReachable links C q
reached_as links B C q to (first b) = first (to q b)
reached_as links B C q to (behind {a = a} reached leads) = behind (reached_as links B C a to reached) leads

pub cycle_found : (links : List (Vec ℕ)) (given begins marks : List Bool) (n : ℕ) (b : Bool) → given ≡ begins →
    ((q : ℕ) → HasMark begins q ↔ LinksTo links n q) →
    ((q : ℕ) → HasMark marks q ↔ IsReachable links (HasMark given) q) → n < length marks → b ≡ get_or marks n b → (b ≡ true) ↔ IsOnCycle links n
cycle_found links given begins marks n b e led found lt is =
    let same : b ≡ get_or marks n false = get_or_read marks n b lt is false in
    let led_by : (q : ℕ) → HasMark given q ↔ LinksTo links n q = λ q. subst (λ xs. HasMark xs q ↔ LinksTo links n q) (sym e) (led q) in (
      (λ t. reached_as links (HasMark given) (LinksTo links n) n (λ x m. (led_by x).0 m) ((found n).0 (sym same ∙ t))),
      (λ k. same ∙ (found n).1 (reached_as links (LinksTo links n) (HasMark given) n (λ x l. (led_by x).1 l) k)),
    )

-- the list marks exactly the first count numbers of the row
pub record MarksPassed (row : List ℕ) (count size : ℕ) (marks : List Bool) : Type 0 where
  pub all : length marks ≡ size
  pub each : (q : ℕ) → HasMark marks q ↔ IsPassed row count q

pub passed_none : (row : List ℕ) (n size : ℕ) (marks : List Bool) → n ≡ size → marks ≡ replicate n false → MarksPassed row 0 size marks
passed_none row n size marks es e = record {
  all = ap length e ∙ length-replicate n false ∙ es;
  each = λ q. ((λ m. absurd (unmarked n marks e q m)), (λ p. let lt : p.0 < 0 = p.1.0 in absurd (omega arith)));
}

pub passed_mark : (row : List ℕ) (i n size : ℕ) (marks : List Bool) → n ≡ get_or row i 0 → n < length marks → MarksPassed row i size marks →
    MarksPassed row (i + 1) size (set marks n true)
passed_mark row i n size marks here within h = record {
  all = length-set marks n true ∙ h.all;
  each = λ q. (
    (λ m. elim (cases_eq q n) [
      | inl same ↦ passed_more row i q (inr (same ∙ here))
      | inr other ↦ passed_more row i q (inl ((h.each q).0 (marked_before marks n q other m)))
    ]),
    (λ p. elim (passed_next row i q p) [
      | inl before ↦ marked_stays marks n q within ((h.each q).1 before)
      | inr last ↦ subst (HasMark (set marks n true)) (here ∙ sym last) (get_or-set_same marks n true false within)
    ]),
  );
}

pub passed_row : (row : List ℕ) (i size : ℕ) (marks : List Bool) → i ≡ length row → MarksPassed row i size marks → (q : ℕ) → HasMark marks q ↔ Contains row q
passed_row row i size marks e h q = ((λ m. passed_held row i q e ((h.each q).0 m)), (λ c. (h.each q).1 (passed_all row i q e c)))
