-- A finished search has marked exactly the packages that are reached.
use Rattle.std.proofs.Common.{◌≡◌, ℕ, zero, suc, ◌+◌, ◌<◌, inl, inr, ◌↔◌, Bool, false, List, [], length, get_or, sym, subst, ◌∙◌, arith}
use Rattle.std.specs.List.{All}
use Rattle.std.proofs.lemmas.List.Elements.{All-from_get_or, Contains-get_or}
use Rattle.std.proofs.Math.ListN.{replicate}
use Rattle.std.proofs.lemmas.Bool.{cases_lt, false≢true}
use Rattle.std.proofs.lemmas.List.{get_or_default}
use Rattle.workspace_graph.specs.Imports.{LinkTable, AreLinked, Imports, row_of, Reaches, itself, through, AreImporterRows}
use Rattle.workspace_graph.specs.Search.{IsMarked, MarksFound, Visits, AreClosedMarks, MarksReached, AreReached, AreReaching, MarksReachingTo}
use Rattle.workspace_graph.proofs.KeptImporters.{importer_below}
use Rattle.workspace_graph.proofs.SearchSteps.{marked_within, linked_below}

-- going on by one import
pub Reaches-more : {g : LinkTable} {p q r : ℕ} → r < length g → Reaches g p q → Imports g q r → Reaches g p r
Reaches-more w (itself h) i = through i (itself w)
Reaches-more w (through j h) i = through j (Reaches-more w h i)

-- going on to what the other reaches
pub Reaches-trans : {g : LinkTable} {p q r : ℕ} → Reaches g p q → Reaches g q r → Reaches g p r
Reaches-trans (itself h) k = k
Reaches-trans (through i h) k = through i (Reaches-trans h k)

-- only packages are reached
pub reached_within : {g : LinkTable} {p q : ℕ} → Reaches g p q → q < length g
reached_within (itself h) = h
reached_within (through i h) = reached_within h

-- ---- what was found on the way
abbrev pub AreFoundFrom : LinkTable → ℕ → List ℕ → Type 0
AreFoundFrom g start found = (i : ℕ) → i < length found → Reaches g start (get_or found i 0)

-- all that the next package imports was found too
pub found_more : (g : LinkTable) (start : ℕ) (f : List ℕ) (m : List Bool) (h : List ℕ) (n : List Bool) (place : ℕ) → AreLinked g → place < length f →
    AreFoundFrom g start f → MarksFound f m h n (Imports g (get_or f place 0)) → AreFoundFrom g start h
found_more g start f m h n place linked within found more i lt = elim (cases_lt i (length f)) [
  | inl below ↦ subst (Reaches g start) (sym (more.same i below)) (found i below)
  | inr ge ↦ (let leads = more.behind i ge lt in
      Reaches-more (linked_below g (get_or f place 0) (get_or h i 0) linked leads) (found place within) leads)
]

-- the first package
pub found_first : (g : LinkTable) (start : ℕ) (f : List ℕ) (m : List Bool) (h : List ℕ) (n : List Bool) → start < length g → length f ≡ 0 →
    MarksFound f m h n (λ q. q ≡ start) → AreFoundFrom g start h
found_first g start f m h n within none more i lt =
    subst (Reaches g start) (sym (more.behind i (omega arith) lt)) (itself within)

-- ---- where marks are closed
module _ (g : LinkTable) (start : ℕ) (old : List Bool) (found : List ℕ) (marks : List Bool) (s : Visits g start old found marks)
    (closed : AreClosedMarks g old) where
  pub closed_still : AreClosedMarks g marks
  closed_still p q m i = elim (s.finds.places p m) [
    | inl before ↦ s.finds.kept q (closed p q before i)
    | inr has ↦ (
        let within : has.0 < length found = has.1 in
        let at : get_or found has.0 0 ≡ p = get_or_default found has.0 0 p within ∙ has.2 in
        s.followed has.0 within q (subst (λ (a : ℕ). Imports g a q) (sym at) i))
  ]

  all_marked : {p q : ℕ} → Reaches g p q → IsMarked marks p → IsMarked marks q
  all_marked (itself h) m = m
  all_marked (through {p = p} {q = r} i h) m = all_marked h (closed_still p r m i)

  pub marks_reached : MarksReached g start old marks
  marks_reached = record {
    size = s.finds.size;
    each = λ q. (
      λ m. elim (s.finds.places q m) [
        | inl before ↦ inl before
        | inr has ↦ (
            let within : has.0 < length found = has.1 in
            let at : get_or found has.0 0 ≡ q = get_or_default found has.0 0 q within ∙ has.2 in
            inr (subst (Reaches g start) at (s.reached has.0 within)))
      ],
      λ w. elim w [ inl before ↦ s.finds.kept q before | inr r ↦ all_marked r s.begun ],
    );
  }

-- ---- no mark
pub none_marked : (n q : ℕ) → IsMarked (replicate n false) q → ⊥
none_marked zero q m = false≢true m
none_marked (suc n) zero m = false≢true m
none_marked (suc n) (suc q) m = none_marked n q m

pub none_in : (marks : List Bool) (n : ℕ) → marks ≡ replicate n false → (q : ℕ) → IsMarked marks q → ⊥
none_in marks n is q m = none_marked n q (subst (λ (ms : List Bool). IsMarked ms q) is m)

pub none_closed : (g : LinkTable) (marks : List Bool) → ((q : ℕ) → IsMarked marks q → ⊥) → AreClosedMarks g marks
none_closed g marks none p q m i = absurd (none p m)

-- what is marked from nothing on
pub reached_alone : (g : LinkTable) (start : ℕ) (old marks : List Bool) → ((q : ℕ) → IsMarked old q → ⊥) → MarksReached g start old marks → (q : ℕ) →
    IsMarked marks q ↔ Reaches g start q
reached_alone g start old marks none are q = (
  λ m. elim ((are.each q).0 m) [ inl before ↦ absurd (none q before) | inr r ↦ r ],
  λ r. (are.each q).1 (inr r),
)

-- ---- what the marked ones of the first packages reach
module _ (g : LinkTable) (starts : List Bool) where
  pub reached_none : (marks : List Bool) → length marks ≡ length g → ((q : ℕ) → IsMarked marks q → ⊥) → AreReached g starts 0 marks
  reached_none marks size none = record { size = size; each = λ q. ((λ m. absurd (none q m)), (λ r. absurd (omega (arith, r.1)))) }

  pub reached_closed : (count : ℕ) (marks : List Bool) → AreLinked g → AreReached g starts count marks → AreClosedMarks g marks
  reached_closed count marks linked are p q m i =
      let r = (are.each p).0 m in
      (are.each q).1 (r.0, r.1, r.2, Reaches-more (linked_below g p q linked i) r.3 i)

  pub reached_more : (count : ℕ) (old new : List Bool) → AreReached g starts count old → IsMarked starts count → MarksReached g count old new →
      AreReached g starts (count + 1) new
  reached_more count old new are marked more = record {
    size = more.size ∙ are.size;
    each = λ q. (
      λ m. elim ((more.each q).0 m) [
        | inl before ↦ (let r = (are.each q).0 before in let lt : r.0 < count = r.1 in (r.0, omega arith, r.2, r.3))
        | inr r ↦ (count, omega arith, marked, r)
      ],
      λ r. (let below : r.0 < count + 1 = r.1 in
          elim (cases_lt r.0 count) [
            | inl lt ↦ (more.each q).1 (inl ((are.each q).1 (r.0, lt, r.2, r.3)))
            | inr ge ↦ (let e : r.0 ≡ count = omega arith in (more.each q).1 (inr (subst (λ (p : ℕ). Reaches g p q) e r.3)))
          ]),
    );
  }

  pub reached_skip : (count : ℕ) (marks : List Bool) → AreReached g starts count marks → (IsMarked starts count → ⊥) → AreReached g starts (count + 1) marks
  reached_skip count marks are none = record {
    size = are.size;
    each = λ q. (
      λ m. (let r = (are.each q).0 m in let lt : r.0 < count = r.1 in (r.0, omega arith, r.2, r.3)),
      λ r. (let below : r.0 < count + 1 = r.1 in
          elim (cases_lt r.0 count) [
            | inl lt ↦ (are.each q).1 (r.0, lt, r.2, r.3)
            | inr ge ↦ (let e : r.0 ≡ count = omega arith in absurd (none (subst (IsMarked starts) e r.2)))
          ]),
    );
  }

-- ---- links backwards
module _ (g noted : LinkTable) (linked : AreLinked g) (back : AreImporterRows g (length g) noted) where
  noted_below : (p q : ℕ) → Imports noted p q → q < length noted
  noted_below p q i = (let lt : q < length g = ((back.each p q).0 i).0 in omega (arith, back.size))

  pub noted_linked : AreLinked noted
  noted_linked = All-from_get_or (λ row. All (λ q. q < length noted) row) noted []
      (λ p within. All-from_get_or (λ q. q < length noted) (row_of noted p) 0
      (λ k lt. noted_below p (get_or (row_of noted p) k 0) (Contains-get_or (row_of noted p) k 0 lt)))

  pub back_reaches : {p q : ℕ} → Reaches noted p q → Reaches g q p
  back_reaches (itself {p = p} h) = itself (let lt : p < length g = omega (arith, back.size) in lt)
  back_reaches (through {p = p} {q = r} i h) =
      let w = (back.each p r).0 i in Reaches-more (linked_below g r p linked w.1) (back_reaches h) w.1

  pub reaches_back : {p q : ℕ} → Reaches g p q → Reaches noted q p
  reaches_back (itself {p = p} h) = itself (let lt : p < length noted = omega (arith, back.size) in lt)
  reaches_back (through {p = p} {q = r} i h) =
      let from : p < length g = importer_below g p r i in
      Reaches-more (let lt : p < length noted = omega (arith, back.size) in lt) (reaches_back h) ((back.each r p).1 (from, i))

  pub are_reaching : (starts marks : List Bool) → length starts ≡ length g → AreReached noted starts (length noted) marks → AreReaching g starts marks
  are_reaching starts marks size are = record {
    size = are.size ∙ back.size;
    each = λ q. (
      λ m. (let r = (are.each q).0 m in (r.0, r.2, back_reaches r.3)),
      λ r. (are.each q).1 (r.0, (let lt : r.0 < length noted = omega (arith, marked_within starts r.0 r.1, size, back.size) in lt), r.1, reaches_back r.2),
    );
  }

  -- what imports a marked package is marked
  pub closed_back : (marks : List Bool) → ((p q : ℕ) → Imports g p q → IsMarked marks q → IsMarked marks p) → AreClosedMarks noted marks
  closed_back marks are p q m i = are q p ((back.each p q).0 i).1 m

  pub marks_importing : (start : ℕ) (old new : List Bool) → MarksReached noted start old new → MarksReachingTo g start old new
  marks_importing start old new are = record {
    size = are.size;
    each = λ q. (
      λ m. elim ((are.each q).0 m) [ inl before ↦ inl before | inr r ↦ inr (back_reaches r) ],
      λ h. elim h [ inl before ↦ (are.each q).1 (inl before) | inr r ↦ (are.each q).1 (inr (reaches_back r)) ],
    );
  }
