-- Tables by tokens, filled in turn.
use Rattle.std.proofs.Common.{ℕ, ◌≡◌, ◌+◌, ◌<◌, ◌≤◌, ◌∷◌, ◌++◌, [], List, inl, inr, length, length-append, get_or, ap, sym, subst, ◌∙◌, refl, zero, suc}
use Rattle.std.proofs.Common.{arith, map, take}
use Rattle.std.specs.Prelude.{Option, Some, None, slice_get}
use Rattle.std.proofs.lemmas.Bool.{cases_lt}
use Rattle.std.proofs.lemmas.Option.{slice_get_past, slice_get-get_or}
use Rattle.std.proofs.lemmas.List.{get_or_past, get_or_push, map-append, take_more}

-- what a table has at each token below n; d: what it has at each further one
pub record IsTableBelow {X : Type 0} (P : ℕ → X → Type 0) (d : X) (n : ℕ) (xs : List X) : Type 0 where
  pub all : length xs ≡ n
  pub each : (t : ℕ) → t < n → P t (get_or xs t d)

get_below : {X : Type 0} (xs ys : List X) (t : ℕ) (d : X) → t < length xs → get_or (xs ++ ys) t d ≡ get_or xs t d
get_below [] ys t d lt = let no : ⊥ = omega arith in absurd no
get_below (x ∷ xs) ys zero d lt = refl
get_below (x ∷ xs) ys (suc t) d lt = get_below xs ys t d (omega arith)

pub no_row : {X : Type 0} (P : ℕ → X → Type 0) (d : X) (xs : List X) → xs ≡ [] → IsTableBelow P d 0 xs
no_row P d xs e = record { all = ap length e; each = λ t lt. let no : ⊥ = omega arith in absurd no }

pub next_row : {X : Type 0} (P : ℕ → X → Type 0) (d : X) (n : ℕ) (xs new : List X) (x : X) → new ≡ xs ++ (x ∷ []) → P n x → IsTableBelow P d n xs →
    IsTableBelow P d (n + 1) new
next_row {X} P d n xs new x e last h = record {
  all = ap length e ∙ (length-append xs (x ∷ []) ∙ ap (λ m. m + 1) h.all);
  each = λ t lt. elim (cases_lt t n) [
    | inl below ↦ subst (P t) (sym (ap (λ (z : List X). get_or z t d) e ∙ get_below xs (x ∷ []) t d (subst (λ m. t < m) (sym h.all) below))) (h.each t below)
    | inr ge ↦ let at : t ≡ n = omega arith in
        subst (λ m. P m (get_or new m d)) (sym at) (subst (P n) (sym (ap (λ (z : List X). get_or z n d) e ∙ get_or_push xs x d n h.all)) last)
  ];
}

pub all_rows : {X : Type 0} (P : ℕ → X → Type 0) (d : X) (n : ℕ) (xs : List X) → ((t : ℕ) → n ≤ t → P t d) → IsTableBelow P d n xs → (t : ℕ) →
    P t (get_or xs t d)
all_rows P d n xs past h t = elim (cases_lt t n) [
  | inl below ↦ h.each t below
  | inr ge ↦ subst (P t) (sym (get_or_past xs t d (subst (λ m. m ≤ t) (sym h.all) ge))) (past t ge)
]

pub all_got : {X : Type 0} (Q : ℕ → Option X → Type 0) (d : X) (n : ℕ) (xs : List X) → ((t : ℕ) → n ≤ t → Q t None) →
    IsTableBelow (λ t x. Q t (Some x)) d n xs → (t : ℕ) → Q t (slice_get xs t)
all_got Q d n xs past h t = elim (cases_lt t n) [
  | inl below ↦ subst (Q t) (sym (slice_get-get_or xs t d (subst (λ m. t < m) (sym h.all) below))) (h.each t below)
  | inr ge ↦ subst (Q t) (sym (slice_get_past xs t (subst (λ m. m ≤ t) (sym h.all) ge))) (past t ge)
]

-- one more item of a list that another is made of
pub map_next : {X Y : Type 0} (f : X → Y) (xs : List X) (i : ℕ) (x : X) → i < length xs → x ≡ get_or xs i x →
    map f (take (i + 1) xs) ≡ map f (take i xs) ++ (f x ∷ [])
map_next f xs i x lt is = ap (map f) (take_more xs i x lt ∙ ap (λ y. take i xs ++ (y ∷ [])) (sym is)) ∙ map-append f (take i xs) (x ∷ [])

-- what is made of the item at i is pushed behind what is made of those before it
pub map_pushed : {X Y : Type 0} (f : X → Y) (xs : List X) (i : ℕ) (d : X) (old new : List Y) → new ≡ old ++ (f (get_or xs i d) ∷ []) →
    old ≡ map f (take i xs) → i < length xs → new ≡ map f (take (i + 1) xs)
map_pushed f xs i d old new e h lt =
    e ∙ (ap (λ z. z ++ (f (get_or xs i d) ∷ [])) h ∙ sym (ap (map f) (take_more xs i d lt) ∙ map-append f (take i xs) (get_or xs i d ∷ [])))
