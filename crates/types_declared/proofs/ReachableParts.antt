-- Reachability along links, number by number.
use Rattle.std.proofs.Common.{ℕ, ◌≡◌, ◌+◌, ◌<◌, ◌≤◌, ◌⊎◌, inl, inr, Bool, true, false, cond, List, [], ◌∷◌, ◌++◌, length, get_or, refl, sym, ap, subst, ◌∙◌}
use Rattle.std.proofs.Common.{arith}
use Rattle.std.proofs.Math.ListN.{set}
use Rattle.std.proofs.lemmas.Bool.{cases_eq, cases_lt, false≢true}
use Rattle.std.proofs.lemmas.List.{get_or-set_same, get_or-set_other, get_or_append_left, get_or_push, length_push, get_or_past, get_or_read, get_or_default}
use Rattle.std.proofs.lemmas.List.Sums.{sum_by-set}
use Rattle.std.specs.List.{count_by}
use Rattle.std.specs.List.{Contains}
use Rattle.std.specs.Prelude.{◌↔◌, slice_index_or}
use Rattle.std.specs.Global.{Vec}
use Rattle.std.proofs.lemmas.List.Elements.{Contains-get_or}
use Rattle.types_declared.specs.Reachability.{HasMark, ListsMarks, AddsMarks, IsOrdered, IsReachOrder, LinksTo, IsReachable, first, behind}

-- all numbers that the first ones of the list link to are marked
abbrev pub IsFollowed : List (Vec ℕ) → List ℕ → List Bool → ℕ → Type 0
IsFollowed links found marks count = (i q : ℕ) → i < count → LinksTo links (slice_index_or found i 0) q → HasMark marks q

pub marked_within : (marks : List Bool) (q : ℕ) → HasMark marks q → q < length marks
marked_within marks q m = elim (cases_lt q (length marks)) [ inl h ↦ h | inr h ↦ absurd (false≢true (sym (get_or_past marks q false h) ∙ m)) ]

pub marked_stays : (marks : List Bool) (n q : ℕ) → n < length marks → HasMark marks q → HasMark (set marks n true) q
marked_stays marks n q within m = elim (cases_eq q n) [
  | inl e ↦ subst (λ k. HasMark (set marks n true) k) (sym e) (get_or-set_same marks n true false within)
  | inr ne ↦ get_or-set_other marks n q true false ne ∙ m
]

pub marked_before : (marks : List Bool) (n q : ℕ) → (q ≡ n → ⊥) → HasMark (set marks n true) q → HasMark marks q
marked_before marks n q ne m = sym (get_or-set_other marks n q true false ne) ∙ m

-- one more mark raises the count of marks by one
counted_set : (marks : List Bool) (n : ℕ) → n < length marks → get_or marks n false ≡ false → count_by (λ m. m) (set marks n true) ≡ count_by (λ m. m) marks + 1
counted_set marks n within fresh =
    let e : count_by (λ m. m) (set marks n true) + 0 ≡ count_by (λ m. m) marks + 1 =
    subst (λ (m : Bool). count_by (λ k. k) (set marks n true) + cond m 1 0 ≡ count_by (λ k. k) marks + 1) fresh
    (sum_by-set (λ (m : Bool). cond m 1 0) marks n true false within) in
    omega arith

pub listed_more : (found : List ℕ) (marks : List Bool) (n : ℕ) → n < length marks → get_or marks n false ≡ false → ListsMarks found marks →
    ListsMarks (found ++ (n ∷ [])) (set marks n true)
listed_more found marks n within fresh h =
    let len : length (found ++ (n ∷ [])) ≡ length found + 1 = length_push found n in
    record {
      counted = let c = counted_set marks n within fresh in omega (arith, len, c, h.counted);
      marked = λ i lt. elim (cases_lt i (length found)) [
        | inl below ↦ subst (HasMark (set marks n true)) (sym (get_or_append_left found (n ∷ []) 0 i below))
            (marked_stays marks n (get_or found i 0) within (h.marked i below))
        | inr ge ↦ subst (HasMark (set marks n true)) (sym (get_or_push found n 0 i (omega (arith, len)))) (get_or-set_same marks n true false within)
      ];
      places = λ q m. elim (cases_eq q n) [
        | inl e ↦ (length found, (omega (arith, len), get_or_push found n 0 (length found) refl ∙ sym e))
        | inr ne ↦ (let w = h.places q (marked_before marks n q ne m) in
            let lt : w.0 < length found = w.1.0 in
            (w.0, (omega (arith, len), get_or_append_left found (n ∷ []) 0 w.0 lt ∙ w.1.1)))
      ];
    }

pub marks_then : (f : List ℕ) (m : List Bool) (g : List ℕ) (n : List Bool) (h : List ℕ) (o : List Bool) (P Q R : ℕ → Type 0) → AddsMarks f m g n P →
    AddsMarks g n h o Q →
    ((q : ℕ) → R q → P q ⊎ Q q) → ((q : ℕ) → P q ⊎ Q q → R q) → AddsMarks f m h o R
marks_then f m g n h o P Q R a b to from = record {
  size = b.size ∙ a.size;
  longer = omega (arith, a.longer, b.longer);
  same = λ i lt. b.same i (omega (arith, a.longer)) ∙ a.same i lt;
  keeps = λ q k. b.keeps q (a.keeps q k);
  holds = λ q r. elim (to q r) [ inl p ↦ b.keeps q (a.holds q p) | inr p ↦ b.holds q p ];
  only = λ q k. elim (b.only q k) [ inl j ↦ elim (a.only q j) [ inl i ↦ inl i | inr p ↦ inr (from q (inl p)) ] | inr p ↦ inr (from q (inr p)) ];
}

pub marks_as : (f : List ℕ) (m : List Bool) (g : List ℕ) (n : List Bool) (P R : ℕ → Type 0) → ((q : ℕ) → R q → P q) → ((q : ℕ) → P q → R q) →
    AddsMarks f m g n P → AddsMarks f m g n R
marks_as f m g n P R to from h = record {
  size = h.size;
  longer = h.longer;
  same = h.same;
  keeps = h.keeps;
  holds = λ q r. h.holds q (to q r);
  only = λ q k. elim (h.only q k) [ inl j ↦ inl j | inr p ↦ inr (from q p) ];
}

-- the number isn't marked yet
pub fresh_at : (marks : List Bool) (n : ℕ) (b : Bool) → n < length marks → b ≡ get_or marks n b → b ≡ false → get_or marks n false ≡ false
fresh_at marks n b lt e is = sym (get_or_read marks n b lt e false) ∙ is

-- The items of a row, before a loop's index

abbrev pub IsPassed : List ℕ → ℕ → ℕ → Type 0
IsPassed row count q = (k : ℕ) × ((k < count) × (q ≡ get_or row k 0))

pub passed_next : (row : List ℕ) (i q : ℕ) → IsPassed row (i + 1) q → IsPassed row i q ⊎ (q ≡ get_or row i 0)
passed_next row i q h =
    let lt : h.0 < i + 1 = h.1.0 in
    elim (cases_lt h.0 i) [
      | inl below ↦ inl (h.0, (below, h.1.1))
      | inr ge ↦ inr (let e : h.0 ≡ i = omega arith in h.1.1 ∙ ap (λ k. get_or row k 0) e)
    ]

pub passed_more : (row : List ℕ) (i q : ℕ) → IsPassed row i q ⊎ (q ≡ get_or row i 0) → IsPassed row (i + 1) q
passed_more row i q h = elim h [
  | inl p ↦ (let lt : p.0 < i = p.1.0 in (p.0, (omega arith, p.1.1)))
  | inr e ↦ (i, (omega arith, e))
]

pub passed_all : (row : List ℕ) (i q : ℕ) → i ≡ length row → Contains row q → IsPassed row i q
passed_all row i q e at = let lt : at.0 < length row = at.1 in (at.0, (omega arith, sym (get_or_default row at.0 0 q at.1 ∙ at.2)))

pub passed_held : (row : List ℕ) (i q : ℕ) → i ≡ length row → IsPassed row i q → Contains row q
passed_held row i q e p = let lt : p.0 < i = p.1.0 in subst (Contains row) (sym p.1.1) (Contains-get_or row p.0 0 (omega arith))

-- The marks of a list, before a loop's index

abbrev pub IsBegun : List Bool → ℕ → ℕ → Type 0
IsBegun begins count q = (q < count) × HasMark begins q

-- The search after one more step

pub followed_more : (links : List (Vec ℕ)) (f : List ℕ) (m : List Bool) (g : List ℕ) (n : List Bool) (place : ℕ) → place < length f →
    IsFollowed links f m place → AddsMarks f m g n (LinksTo links (get_or f place 0)) →
    IsFollowed links g n (place + 1)
followed_more links f m g n place within done more i q lt leads =
    let there : LinksTo links (get_or f i 0) q = subst (λ a. LinksTo links a q) (more.same i (omega arith)) leads in
    elim (cases_lt i place) [
      | inl below ↦ more.keeps q (done i q below there)
      | inr ge ↦ let e : i ≡ place = omega arith in more.holds q (subst (λ k. LinksTo links (get_or f k 0) q) e there)
    ]

pub reached_more : (links : List (Vec ℕ)) (Begins : ℕ → Type 0) (f : List ℕ) (m : List Bool) (g : List ℕ) (n : List Bool) (place : ℕ) → place < length f →
    ListsMarks f m →
    ((q : ℕ) → HasMark m q → IsReachable links Begins q) → AddsMarks f m g n (LinksTo links (get_or f place 0)) → (q : ℕ) → HasMark n q →
    IsReachable links Begins q
reached_more links Begins f m g n place within listed sound more q k = elim (more.only q k) [
  | inl j ↦ sound q j
  | inr leads ↦ behind (sound (get_or f place 0) (listed.marked place within)) leads
]

-- a search that followed all its numbers has marked all reached ones
pub holds_reached : (links : List (Vec ℕ)) (Begins : ℕ → Type 0) (f : List ℕ) (m : List Bool) → ListsMarks f m → ((q : ℕ) → Begins q → HasMark m q) →
    IsFollowed links f m (length f) →
    (q : ℕ) → IsReachable links Begins q → HasMark m q
holds_reached links Begins f m listed begun done q (first b) = begun q b
holds_reached links Begins f m listed begun done q (behind {a} r leads) =
    let at = listed.places a (holds_reached links Begins f m listed begun done a r) in
    done at.0 q at.1.0 (subst (λ k. LinksTo links k q) (sym at.1.1) leads)

-- The order in which numbers are found

abbrev IsLedTo : List (Vec ℕ) → List ℕ → (i q : ℕ) → Type 0
IsLedTo links found i q = (j : ℕ) × ((j < i) × LinksTo links (get_or found j 0) q)

led_later : (links : List (Vec ℕ)) (f g : List ℕ) (i k q : ℕ) → k ≤ length f → k ≤ i → ((j : ℕ) → j < length f → get_or g j 0 ≡ get_or f j 0) →
    IsLedTo links f k q → IsLedTo links g i q
led_later links f g i k q within le same h =
    let lt : h.0 < k = h.1.0 in
    (h.0, (omega arith, subst (λ a. LinksTo links a q) (sym (same h.0 (omega arith))) h.1.1))

pub ordered_more : (links : List (Vec ℕ)) (Begins : ℕ → Type 0) (f : List ℕ) (m : List Bool) (g : List ℕ) (n : List Bool) (place : ℕ) → place < length f →
    ListsMarks f m → ListsMarks g n →
    IsOrdered links Begins f → AddsMarks f m g n (LinksTo links (get_or f place 0)) → IsOrdered links Begins g
ordered_more links Begins f m g n place within listed now ordered more i lt =
    let q : ℕ = get_or g i 0 in
    elim (cases_lt i (length f)) [
      | inl below ↦ (let same : q ≡ get_or f i 0 = more.same i below in
          elim (ordered i below) [
            | inl b ↦ inl (subst Begins (sym same) b)
            | inr h ↦ inr (subst (IsLedTo links g i) (sym same) (led_later links f g i i (get_or f i 0) (omega arith) (omega arith) more.same h))
          ])
      | inr ge ↦ elim (more.only q (now.marked i lt)) [
        | inl before ↦ (let at = listed.places q before in
            let k : ℕ = at.0 in
            let klt : k < length f = at.1.0 in
            let same : get_or f k 0 ≡ q = at.1.1 in
            elim (ordered k klt) [
              | inl b ↦ inl (subst Begins same b)
              | inr h ↦ inr (subst (IsLedTo links g i) same (led_later links f g i k (get_or f k 0) (omega arith) (omega arith) more.same h))
            ])
        | inr leads ↦ inr (place, (omega arith, subst (λ a. LinksTo links a q) (sym (more.same place within)) leads))
      ]
    ]

pub order_of : (links : List (Vec ℕ)) (Begins : ℕ → Type 0) (found : List ℕ) (marks : List Bool) → ListsMarks found marks → IsOrdered links Begins found →
    ((q : ℕ) → HasMark marks q ↔ IsReachable links Begins q) → IsReachOrder links Begins found
order_of links Begins found marks listed ordered reached = record {
  reached = λ i lt. (reached (get_or found i 0)).0 (listed.marked i lt);
  places = λ q r. listed.places q ((reached q).1 r);
  ordered = ordered;
}
