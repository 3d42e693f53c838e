-- The faults of a list's items, added item by item.
use Rattle.std.proofs.Common.{ℕ, suc, ◌≡◌, ◌+◌, ◌<◌, ◌⊎◌, inl, inr, List, [], ◌∷◌, ◌++◌, length, take, get_or, ap, subst, sym, ◌∙◌, append-nil, arith}
use Rattle.std.specs.Prelude.{Result, OnOk}
use Rattle.std.specs.List.{flat_map}
use Rattle.std.proofs.Math.Seq.{take-suc, take-length}
use Rattle.std.proofs.lemmas.Grind.{flat_map-append}
use Rattle.std.proofs.lemmas.Result.{on_ok_weaker}
use Rattle.std.proofs.lemmas.Bool.{cases_lt}
use Rattle.types_declared.specs.declared.fault.Fault.{Fault}
use Rattle.types_declared.specs.Listing.{AddsFaults, IsOfSomeItem, AddsEach, IsFaultBelow}
use Rattle.types_declared.proofs.Listings.{adds_none, adds_as, adds_then}

pub some_left : {X : Type 0} (Q : X → Fault → Type 0) (xs ys : List X) (f : Fault) → IsOfSomeItem Q xs f → IsOfSomeItem Q (xs ++ ys) f
some_left Q [] ys f h = absurd h
some_left Q (x ∷ xs) ys f h = elim h [ inl q ↦ inl q | inr r ↦ inr (some_left Q xs ys f r) ]

pub some_right : {X : Type 0} (Q : X → Fault → Type 0) (xs ys : List X) (f : Fault) → IsOfSomeItem Q ys f → IsOfSomeItem Q (xs ++ ys) f
some_right Q [] ys f h = h
some_right Q (x ∷ xs) ys f h = inr (some_right Q xs ys f h)

pub some_cases : {X : Type 0} (Q : X → Fault → Type 0) (xs ys : List X) (f : Fault) → IsOfSomeItem Q (xs ++ ys) f → IsOfSomeItem Q xs f ⊎ IsOfSomeItem Q ys f
some_cases Q [] ys f h = inr h
some_cases Q (x ∷ xs) ys f h = elim h [
  | inl q ↦ inl (inl q)
  | inr r ↦ elim (some_cases Q xs ys f r) [ inl a ↦ inl (inr a) | inr b ↦ inr b ]
]

pub each_none : {X : Type 0} (Q : X → Fault → Type 0) (a : List Fault) → AddsEach Q a a []
each_none Q a = adds_none a (IsOfSomeItem Q []) (λ f h. h)

pub each_as : {X : Type 0} (Q : X → Fault → Type 0) (a b : List Fault) (xs ys : List X) → AddsEach Q a b xs → xs ≡ ys → AddsEach Q a b ys
each_as Q a b xs ys h e = subst (AddsEach Q a b) e h

-- the faults of one item are added
pub each_one : {X : Type 0} (Q : X → Fault → Type 0) (a b : List Fault) (x : X) → AddsFaults a b (Q x) → AddsEach Q a b (x ∷ [])
each_one Q a b x h = adds_as a b (Q x) (IsOfSomeItem Q (x ∷ [])) h (λ f q. inl q) (λ f q. elim q [ inl p ↦ p | inr z ↦ absurd z ])

pub each_then : {X : Type 0} (Q : X → Fault → Type 0) (a b c : List Fault) (xs ys : List X) → AddsEach Q a b xs → AddsEach Q b c ys → AddsEach Q a c (xs ++ ys)
each_then Q a b c xs ys h k =
    adds_as a c (λ f. IsOfSomeItem Q xs f ⊎ IsOfSomeItem Q ys f) (IsOfSomeItem Q (xs ++ ys)) (adds_then a b c (IsOfSomeItem Q xs) (IsOfSomeItem Q ys) h k)
    (λ f q. elim q [ inl p ↦ some_left Q xs ys f p | inr p ↦ some_right Q xs ys f p ]) (λ f q. some_cases Q xs ys f q)

-- a call adds the faults of the other items
pub then_each : {E X : Type 0} (Q : X → Fault → Type 0) (a b c : List Fault) (xs ys zs : List X) (r : Result (Unit {0}) E) →
    AddsEach Q a b xs → OnOk r (AddsEach Q b c ys) → xs ++ ys ≡ zs → OnOk r (AddsEach Q a c zs)
then_each Q a b c xs ys zs r h k e = on_ok_weaker r (λ q. each_as Q a c (xs ++ ys) zs (each_then Q a b c xs ys h q) e) k

pub call_each : {E X : Type 0} (Q : X → Fault → Type 0) (a b : List Fault) (xs ys : List X) (r : Result (Unit {0}) E) →
    OnOk r (AddsEach Q a b xs) → xs ≡ ys → OnOk r (AddsEach Q a b ys)
call_each Q a b xs ys r k e = on_ok_weaker r (λ q. each_as Q a b xs ys q e) k

-- A loop over items

flat_map-take : {X Y : Type 0} (g : Y → List X) (ys : List Y) (i : ℕ) (d : Y) → i < length ys →
    flat_map g (take i ys) ++ g (get_or ys i d) ≡ flat_map g (take (i + 1) ys)
flat_map-take g ys i d lt =
    ap (λ z. flat_map g (take i ys) ++ z) (sym (append-nil (g (get_or ys i d)))) ∙ sym (flat_map-append g (take i ys) (get_or ys i d ∷ [])) ∙
    sym (ap (flat_map g) (take-suc ys i d lt)) ∙ ap (λ k. flat_map g (take k ys)) (let e : suc i ≡ i + 1 = omega arith in e)

pub each_next : {X Y : Type 0} (Q : X → Fault → Type 0) (a b c : List Fault) (g : Y → List X) (ys : List Y) (i : ℕ) (d : Y) → i < length ys →
    AddsEach Q a b (flat_map g (take i ys)) → AddsEach Q b c (g (get_or ys i d)) → AddsEach Q a c (flat_map g (take (i + 1) ys))
each_next Q a b c g ys i d lt h k =
    each_as Q a c (flat_map g (take i ys) ++ g (get_or ys i d)) (flat_map g (take (i + 1) ys))
    (each_then Q a b c (flat_map g (take i ys)) (g (get_or ys i d)) h k) (flat_map-take g ys i d lt)

pub each_all : {X Y : Type 0} (Q : X → Fault → Type 0) (a b : List Fault) (g : Y → List X) (ys : List Y) (i : ℕ) → i ≡ length ys →
    AddsEach Q a b (flat_map g (take i ys)) → AddsEach Q a b (flat_map g ys)
each_all Q a b g ys i e h = each_as Q a b (flat_map g (take i ys)) (flat_map g ys) h (ap (λ k. flat_map g (take k ys)) e ∙ ap (flat_map g) (take-length ys))

-- A loop over numbers

pub below_none : (Q : ℕ → Fault → Type 0) (a : List Fault) → AddsFaults a a (IsFaultBelow Q 0)
below_none Q a = adds_none a (IsFaultBelow Q 0) (λ f h. let lt : h.0 < 0 = h.1 in absurd (omega arith))

below_to : (Q : ℕ → Fault → Type 0) (i : ℕ) (f : Fault) → IsFaultBelow Q i f ⊎ Q i f → IsFaultBelow Q (i + 1) f
below_to Q i f h = elim h [
  | inl q ↦ (q.0, (let lt : q.0 < i = q.1 in omega arith), q.2)
  | inr q ↦ (i, omega arith, q)
]

below_from : (Q : ℕ → Fault → Type 0) (i : ℕ) (f : Fault) → IsFaultBelow Q (i + 1) f → IsFaultBelow Q i f ⊎ Q i f
below_from Q i f h = elim (cases_lt h.0 i) [
  | inl lt ↦ inl (h.0, lt, h.2)
  | inr ge ↦ inr (let lt : h.0 < i + 1 = h.1 in let e : h.0 ≡ i = omega arith in subst (λ u. Q u f) e h.2)
]

pub below_next : (Q : ℕ → Fault → Type 0) (a b c : List Fault) (i : ℕ) → AddsFaults a b (IsFaultBelow Q i) → AddsFaults b c (Q i) →
    AddsFaults a c (IsFaultBelow Q (i + 1))
below_next Q a b c i h k = adds_as a c (λ f. IsFaultBelow Q i f ⊎ Q i f) (IsFaultBelow Q (i + 1)) (adds_then a b c (IsFaultBelow Q i) (Q i) h k) (below_to Q
    i) (below_from Q i)

-- the loop adds the faults of the items at its index
pub each_step : {X Y : Type 0} (Q : X → Fault → Type 0) (a b c : List Fault) (g : Y → List X) (ys : List Y) (i : ℕ) (y : Y) → i < length ys →
    y ≡ get_or ys i y →
    AddsEach Q a b (flat_map g (take i ys)) → AddsEach Q b c (g y) → AddsEach Q a c (flat_map g (take (i + 1) ys))
each_step Q a b c g ys i y lt e h k = each_next Q a b c g ys i y lt h (subst (λ z. AddsEach Q b c (g z)) e k)

-- a call adds the faults of one item
pub call_one : {E X : Type 0} (Q : X → Fault → Type 0) (a b : List Fault) (x : X) (ys : List X) (r : Result (Unit {0}) E) →
    OnOk r (AddsFaults a b (Q x)) → (x ∷ []) ≡ ys → OnOk r (AddsEach Q a b ys)
call_one Q a b x ys r k e = on_ok_weaker r (λ q. each_as Q a b (x ∷ []) ys (each_one Q a b x q) e) k
