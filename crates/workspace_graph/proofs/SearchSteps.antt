-- The steps of a search, one package after another.
use Rattle.std.proofs.Common.{◌≡◌, ℕ, ◌+◌, ◌<◌, ◌≤◌, ◌⊎◌, inl, inr, Bool, true, false, cond, List, [], ◌∷◌, ◌++◌, length, take, get_or, refl, sym}
use Rattle.std.proofs.Common.{subst, ◌∙◌, arith}
use Rattle.std.proofs.Math.ListN.{set}
use Rattle.std.proofs.lemmas.Bool.{cases_eq, false≢true, cases_lt}
use Rattle.std.proofs.lemmas.List.{get_or-set_same, get_or-set_other, get_or_append_left, get_or_push, length_push, length-set, take_all, take_more}
use Rattle.std.proofs.lemmas.List.{get_or_past, get_or_read}
use Rattle.std.proofs.lemmas.List.Sums.{sum_by-set}
use Rattle.std.specs.List.{count_by}
use Rattle.std.specs.List.{Contains}
use Rattle.std.proofs.lemmas.List.Elements.{All-contains, Contains-get_or, Contains-push, Contains-push_cases, Contains-append_left}
use Rattle.workspace_graph.specs.Imports.{LinkTable, AreLinked, Imports, row_of}
use Rattle.workspace_graph.specs.Search.{IsMarked, ListsNewMarks, MarksFound, AreImportsMarked}

-- only what is in range is marked
pub marked_within : (marks : List Bool) (q : ℕ) → IsMarked marks q → q < length marks
marked_within marks q m = elim (cases_lt q (length marks)) [ inl h ↦ h | inr h ↦ absurd (false≢true (sym (get_or_past marks q false h) ∙ m)) ]

pub marked_stays : (marks : List Bool) (n q : ℕ) → IsMarked marks q → IsMarked (set marks n true) q
marked_stays marks n q m = elim (cases_eq q n) [
  | inl e ↦ (let w : n < length marks = subst (λ (k : ℕ). k < length marks) e (marked_within marks q m) in
      subst (λ (k : ℕ). IsMarked (set marks n true) k) (sym e) (get_or-set_same marks n true false w))
  | inr ne ↦ get_or-set_other marks n q true false ne ∙ m
]

marked_before : (marks : List Bool) (n q : ℕ) → (q ≡ n → ⊥) → IsMarked (set marks n true) q → IsMarked marks q
marked_before marks n q ne m = sym (get_or-set_other marks n q true false ne) ∙ m

-- one more mark
pub counted_set : (marks : List Bool) (n : ℕ) → n < length marks → get_or marks n false ≡ false →
    count_by (λ m. m) (set marks n true) ≡ count_by (λ m. m) marks + 1
counted_set marks n within clear =
    let e : count_by (λ m. m) (set marks n true) + 0 ≡ count_by (λ m. m) marks + 1 =
    subst (λ (m : Bool). count_by (λ k. k) (set marks n true) + cond m 1 0 ≡ count_by (λ k. k) marks + 1) clear
    (sum_by-set (λ (m : Bool). cond m 1 0) marks n true false within) in
    omega arith

-- nothing was found yet
pub finds_none : (marks : List Bool) → ListsNewMarks marks [] marks
finds_none marks = record {
  size = refl;
  counted = omega arith;
  kept = λ q m. m;
  fresh = λ i lt m. absurd (omega arith);
  marked = λ i lt. absurd (omega arith);
  places = λ q m. inl m;
  once = λ i j lt below same. absurd (omega arith);
}

-- one more package, which was not marked
module _ (found : List ℕ) (marks : List Bool) (n : ℕ) (within : n < length marks) (clear : get_or marks n false ≡ false) where
  len : length (found ++ n ∷ []) ≡ length found + 1
  len = length_push found n

  old_at : (i : ℕ) → i < length found → get_or (found ++ n ∷ []) i 0 ≡ get_or found i 0
  old_at i lt = get_or_append_left found (n ∷ []) 0 i lt

  last_at : (i : ℕ) → length found ≡ i → get_or (found ++ n ∷ []) i 0 ≡ n
  last_at i e = get_or_push found n 0 i e

  now : IsMarked (set marks n true) n
  now = get_or-set_same marks n true false within

  pub finds_more : (first : List Bool) → ListsNewMarks first found marks → ListsNewMarks first (found ++ n ∷ []) (set marks n true)
  finds_more first h = record {
    size = length-set marks n true ∙ h.size;
    counted = let c = counted_set marks n within clear in omega (arith, len, c, h.counted);
    kept = λ q m. marked_stays marks n q (h.kept q m);
    fresh = λ i lt m. elim (cases_lt i (length found)) [
      | inl below ↦ h.fresh i below (subst (IsMarked first) (old_at i below) m)
      | inr ge ↦ false≢true (sym clear ∙ h.kept n (subst (IsMarked first) (last_at i (omega (arith, len))) m))
    ];
    marked = λ i lt. elim (cases_lt i (length found)) [
      | inl below ↦ subst (IsMarked (set marks n true)) (sym (old_at i below)) (marked_stays marks n (get_or found i 0) (h.marked i below))
      | inr ge ↦ subst (IsMarked (set marks n true)) (sym (last_at i (omega (arith, len)))) now
    ];
    places = λ q m. elim (cases_eq q n) [
      | inl e ↦ inr (subst (Contains (found ++ n ∷ [])) (sym e) (Contains-push found n))
      | inr ne ↦ elim (h.places q (marked_before marks n q ne m)) [ inl o ↦ inl o | inr c ↦ inr (Contains-append_left found (n ∷ []) q c) ]
    ];
    once = λ i j lt below same. elim (cases_lt j (length found)) [
      | inl before ↦ h.once i j lt before (sym (old_at i (omega arith)) ∙ same ∙ old_at j before)
      | inr ge ↦ (
          let here : i < length found = omega (arith, len) in
          let is : get_or found i 0 ≡ n = sym (old_at i here) ∙ same ∙ last_at j (omega (arith, len)) in
          false≢true (sym clear ∙ subst (IsMarked marks) is (h.marked i here)))
    ];
  }

  pub notes_one : MarksFound found marks (found ++ n ∷ []) (set marks n true) (λ q. q ≡ n)
  notes_one = record {
    longer = omega (arith, len);
    same = old_at;
    kept = marked_stays marks n;
    holds = λ q e. subst (IsMarked (set marks n true)) (sym e) now;
    only = λ q m. elim (cases_eq q n) [ inl e ↦ inr e | inr ne ↦ inl (marked_before marks n q ne m) ];
    behind = λ i ge lt. last_at i (omega (arith, len));
  }

-- a package that is marked is not noted again
pub notes_same : (found : List ℕ) (marks : List Bool) (n : ℕ) → IsMarked marks n → MarksFound found marks found marks (λ q. q ≡ n)
notes_same found marks n m = record {
  longer = omega arith;
  same = λ i lt. refl;
  kept = λ q k. k;
  holds = λ q e. subst (IsMarked marks) (sym e) m;
  only = λ q k. inl k;
  behind = λ i ge lt. absurd (omega arith);
}

pub notes_none : (found : List ℕ) (marks : List Bool) (P : ℕ → Type 0) → ((q : ℕ) → P q → ⊥) → MarksFound found marks found marks P
notes_none found marks P none = record {
  longer = omega arith;
  same = λ i lt. refl;
  kept = λ q k. k;
  holds = λ q p. absurd (none q p);
  only = λ q k. inl k;
  behind = λ i ge lt. absurd (omega arith);
}

-- what was noted, and then more
pub notes_then : (f : List ℕ) (m : List Bool) (g : List ℕ) (n : List Bool) (h : List ℕ) (o : List Bool) (P Q R : ℕ → Type 0) → MarksFound f m g n P →
    MarksFound g n h o Q → ((q : ℕ) → R q → P q ⊎ Q q) → ((q : ℕ) → P q ⊎ Q q → R q) → MarksFound f m h o R
notes_then f m g n h o P Q R a b to from = record {
  longer = omega (arith, a.longer, b.longer);
  same = λ i lt. b.same i (omega (arith, a.longer)) ∙ a.same i lt;
  kept = λ q k. b.kept q (a.kept q k);
  holds = λ q r. elim (to q r) [ inl p ↦ b.kept q (a.holds q p) | inr p ↦ b.holds q p ];
  only = λ q k. elim (b.only q k) [ inl j ↦ elim (a.only q j) [ inl i ↦ inl i | inr p ↦ inr (from q (inl p)) ] | inr p ↦ inr (from q (inr p)) ];
  behind = λ i ge lt. elim (cases_lt i (length g)) [
    | inl below ↦ subst R (sym (b.same i below)) (from (get_or g i 0) (inl (a.behind i ge below)))
    | inr past ↦ from (get_or h i 0) (inr (b.behind i past lt))
  ];
}

pub notes_as : (f : List ℕ) (m : List Bool) (g : List ℕ) (n : List Bool) (P R : ℕ → Type 0) → ((q : ℕ) → R q → P q) → ((q : ℕ) → P q → R q) →
    MarksFound f m g n P → MarksFound f m g n R
notes_as f m g n P R to from h = record {
  longer = h.longer;
  same = h.same;
  kept = h.kept;
  holds = λ q r. h.holds q (to q r);
  only = λ q k. elim (h.only q k) [ inl j ↦ inl j | inr p ↦ inr (from q p) ];
  behind = λ i ge lt. from (get_or g i 0) (h.behind i ge lt);
}

-- ---- the row of a package, as far as a loop has come
pub row_next : (row : List ℕ) (i q : ℕ) → i < length row → Contains (take (i + 1) row) q → Contains (take i row) q ⊎ (q ≡ get_or row i 0)
row_next row i q lt has =
    elim (Contains-push_cases (take i row) (get_or row i 0) q (subst (λ (xs : List ℕ). Contains xs q) (take_more row i 0 lt) has)) [
      | inl before ↦ inl before
      | inr e ↦ inr (sym e)
    ]

pub row_more : (row : List ℕ) (i q : ℕ) → i < length row → Contains (take i row) q ⊎ (q ≡ get_or row i 0) → Contains (take (i + 1) row) q
row_more row i q lt h = subst (λ (xs : List ℕ). Contains xs q) (sym (take_more row i 0 lt)) (elim h [
  | inl before ↦ Contains-append_left (take i row) (get_or row i 0 ∷ []) q before
  | inr e ↦ subst (Contains (take i row ++ get_or row i 0 ∷ [])) (sym e) (Contains-push (take i row) (get_or row i 0))
])

pub row_all : (row : List ℕ) (i : ℕ) → length row ≤ i → take i row ≡ row
row_all row i le = take_all i row le

-- ---- links
-- each import is a package
pub linked_below : (g : LinkTable) (p q : ℕ) → AreLinked g → Imports g p q → q < length g
linked_below g p q linked i = elim (cases_lt p (length g)) [
  | inl h ↦ All-contains (λ r. r < length g) (row_of g p) q (linked p [] h) i
  | inr h ↦ (let none : Contains [] q = subst (λ (xs : List ℕ). Contains xs q) (get_or_past g p [] h) i in absurd (omega (arith, none.1)))
]

-- what a row holds is imported
pub row_imports : (g : LinkTable) (p : ℕ) (row : List ℕ) (k : ℕ) → row ≡ row_of g p → k < length row → Imports g p (get_or row k 0)
row_imports g p row k is h = subst (λ (xs : List ℕ). Contains xs (get_or row k 0)) is (Contains-get_or row k 0 h)

-- what a test of a mark read
pub mark_read : (marks : List Bool) (n : ℕ) (b v : Bool) → n < length marks → b ≡ get_or marks n b → b ≡ v → get_or marks n false ≡ v
mark_read marks n b v h e is = sym (get_or_read marks n b h e false) ∙ is

-- ---- one package more is followed
pub followed_more : (g : LinkTable) (f : List ℕ) (m : List Bool) (h : List ℕ) (n : List Bool) (place : ℕ) → place < length f → AreImportsMarked g f m place →
    MarksFound f m h n (Imports g (get_or f place 0)) → AreImportsMarked g h n (place + 1)
followed_more g f m h n place within done more i lt q leads =
    let there : Imports g (get_or f i 0) q = subst (λ (a : ℕ). Imports g a q) (more.same i (omega arith)) leads in
    elim (cases_lt i place) [
      | inl below ↦ more.kept q (done i below q there)
      | inr ge ↦ (let e : i ≡ place = omega arith in more.holds q (subst (λ (k : ℕ). Imports g (get_or f k 0) q) e there))
    ]
