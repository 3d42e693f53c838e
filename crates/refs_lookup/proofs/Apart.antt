-- Lists of elements with different positions.
use Rattle.std.proofs.Common.{ℕ, zero, suc, ◌≡◌, ◌<◌, ◌≤◌, List, [], ◌∷◌, ◌++◌, ◌+◌, ap, sym, ◌∙◌, refl, arith}
use Rattle.std.specs.Prelude.{Some, slice_get}
use Rattle.std.specs.List.{AllByRecursion}
use Rattle.std.proofs.lemmas.Option.{none-some, same_Some}
use Rattle.base_lemmas.proofs.EachElement.{all_append}
use Rattle.go_scope.specs.declared.model.Position.{Position}
use Rattle.law_tokens.proofs.Elements.{all_got}

-- of all elements

pub all_as : {X : Type 0} (P Q : X → Type 0) → ((x : X) → P x → Q x) → (xs : List X) → AllByRecursion P xs → AllByRecursion Q xs
all_as P Q f [] a = tt
all_as P Q f (x ∷ xs) a = (f x a.0, all_as P Q f xs a.1)

all_of : {X : Type 0} (P : X → Type 0) → ((x : X) → P x) → (xs : List X) → AllByRecursion P xs
all_of P f [] = tt
all_of P f (x ∷ xs) = (f x, all_of P f xs)

-- The elements of one list have other positions than those of the other.

abbrev pub Disjoint : {X Y : Type 0} → (X → Position) → (Y → Position) → List X → List Y → Type 0
Disjoint at by xs ys = AllByRecursion (λ x. AllByRecursion (λ y. at x ≡ by y → ⊥) ys) xs

pub disjoint_by : {X Y : Type 0} (at : X → Position) (by : Y → Position) (P : X → Type 0) (Q : Y → Type 0) →
    ((x : X) (y : Y) → P x → Q y → at x ≡ by y → ⊥) → (xs : List X) (ys : List Y) → AllByRecursion P xs → AllByRecursion Q ys → Disjoint at by xs ys
disjoint_by at by P Q h xs ys a b =
    all_as P (λ x. AllByRecursion (λ y. at x ≡ by y → ⊥) ys) (λ x p. all_as Q (λ y. at x ≡ by y → ⊥) (λ y q. h x y p q) ys b) xs a

pub disjoint_none : {X Y : Type 0} (at : X → Position) (by : Y → Position) (xs : List X) → Disjoint at by xs []
disjoint_none at by xs = all_of (λ x. AllByRecursion (λ y. at x ≡ by y → ⊥) []) (λ x. tt) xs

disjoint_right : {X Y : Type 0} (at : X → Position) (by : Y → Position) (xs : List X) (ys zs : List Y) → Disjoint at by xs ys → Disjoint at by xs zs →
    Disjoint at by xs (ys ++ zs)
disjoint_right at by [] ys zs a b = tt
disjoint_right at by (x ∷ xs) ys zs a b = (all_append (λ y. at x ≡ by y → ⊥) ys zs a.0 b.0, disjoint_right at by xs ys zs a.1 b.1)

pub disjoint_append : {X Y : Type 0} (at : X → Position) (by : Y → Position) (xs vs : List X) (ys zs : List Y) → Disjoint at by xs ys → Disjoint at by xs zs →
    Disjoint at by vs ys → Disjoint at by vs zs → Disjoint at by (xs ++ vs) (ys ++ zs)
disjoint_append at by xs vs ys zs a b c d =
    all_append (λ x. AllByRecursion (λ y. at x ≡ by y → ⊥) (ys ++ zs)) xs vs (disjoint_right at by xs ys zs a b) (disjoint_right at by vs ys zs c d)

pub disjoint_got : {X Y : Type 0} (at : X → Position) (by : Y → Position) (xs : List X) (ys : List Y) → Disjoint at by xs ys → (k j : ℕ) (x : X) (y : Y) →
    slice_get xs k ≡ Some x → slice_get ys j ≡ Some y → at x ≡ by y → ⊥
disjoint_got at by xs ys h k j x y ex ey e =
    all_got (λ z. at x ≡ by z → ⊥) ys j y (all_got (λ v. AllByRecursion (λ z. at v ≡ by z → ⊥) ys) xs k x h ex) ey e

-- The elements have different positions.

abbrev pub Apart : {X : Type 0} → (X → Position) → List X → Type 0
Apart at [] = Unit {0}
Apart at (x ∷ xs) = AllByRecursion (λ y. at x ≡ at y → ⊥) xs × Apart at xs

pub apart_append : {X : Type 0} (at : X → Position) (xs ys : List X) → Apart at xs → Apart at ys → Disjoint at at xs ys → Apart at (xs ++ ys)
apart_append at [] ys a b d = b
apart_append at (x ∷ xs) ys a b d = (all_append (λ y. at x ≡ at y → ⊥) xs ys a.0 d.0, apart_append at xs ys a.1 b d.1)

pub one_rank : {X : Type 0} (at : X → Position) (xs : List X) → Apart at xs → (k j : ℕ) (x y : X) → slice_get xs k ≡ Some x → slice_get xs j ≡ Some y →
    at x ≡ at y → k ≡ j
one_rank at [] a k j x y ex ey e = absurd (none-some x ex)
one_rank at (z ∷ zs) a zero zero x y ex ey e = refl
one_rank at (z ∷ zs) a zero (suc j) x y ex ey e =
    absurd (all_got (λ v. at z ≡ at v → ⊥) zs j y a.0 ey (ap at (same_Some z x ex) ∙ e))
one_rank at (z ∷ zs) a (suc k) zero x y ex ey e =
    absurd (all_got (λ v. at z ≡ at v → ⊥) zs k x a.0 ex (ap at (same_Some z y ey) ∙ sym e))
one_rank at (z ∷ zs) a (suc k) (suc j) x y ex ey e = ap suc (one_rank at zs a.1 k j x y ex ey e)

-- The elements are in one file at rising tokens, from a first token on and all below a bound.

abbrev pub RiseIn : {X : Type 0} → (X → Position) → (file n : ℕ) → List X → ℕ → Type 0
RiseIn at file n [] m = n ≤ m
RiseIn at file n (x ∷ xs) m = ((at x).file ≡ file) × (n ≤ (at x).index) × RiseIn at file (suc (at x).index) xs m

pub rise_le : {X : Type 0} (at : X → Position) (file n : ℕ) (xs : List X) (m : ℕ) → RiseIn at file n xs m → n ≤ m
rise_le at file n [] m h = h
rise_le at file n (x ∷ xs) m h =
    let le : suc (at x).index ≤ m = rise_le at file (suc (at x).index) xs m h.2 in
    let from : n ≤ (at x).index = h.1 in omega arith

pub rise_down : {X : Type 0} (at : X → Position) (file n k : ℕ) (xs : List X) (m : ℕ) → n ≤ k → RiseIn at file k xs m → RiseIn at file n xs m
rise_down at file n k [] m le h = let up : k ≤ m = h in omega arith
rise_down at file n k (x ∷ xs) m le h = (h.0, (let from : k ≤ (at x).index = h.1 in omega arith), h.2)

pub rise_up : {X : Type 0} (at : X → Position) (file n : ℕ) (xs : List X) (k m : ℕ) → k ≤ m → RiseIn at file n xs k → RiseIn at file n xs m
rise_up at file n [] k m le h = let up : n ≤ k = h in omega arith
rise_up at file n (x ∷ xs) k m le h = (h.0, h.1, rise_up at file (suc (at x).index) xs k m le h.2)

pub rise_append : {X : Type 0} (at : X → Position) (file n : ℕ) (xs : List X) (k : ℕ) (ys : List X) (m : ℕ) → RiseIn at file n xs k → RiseIn at file k ys m →
    RiseIn at file n (xs ++ ys) m
rise_append at file n [] k ys m a b = rise_down at file n k ys m a b
rise_append at file n (x ∷ xs) k ys m a b = (a.0, a.1, rise_append at file (suc (at x).index) xs k ys m a.2 b)

-- it stands at one of these tokens of the file
pub record Lies {X : Type 0} (at : X → Position) (file n m : ℕ) (x : X) : Type 0 where
  pub in_file : (at x).file ≡ file
  pub from : n ≤ (at x).index
  pub before : (at x).index < m

pub rise_lies : {X : Type 0} (at : X → Position) (file n : ℕ) (xs : List X) (m : ℕ) → RiseIn at file n xs m → AllByRecursion (Lies at file n m) xs
rise_lies at file n [] m h = tt
rise_lies at file n (x ∷ xs) m h =
    let le : suc (at x).index ≤ m = rise_le at file (suc (at x).index) xs m h.2 in
    let from : n ≤ (at x).index = h.1 in (
      record { in_file = h.0; from = from; before = omega arith },
      all_as (Lies at file (suc (at x).index) m) (Lies at file n m)
          (λ y l. record { in_file = l.in_file; from = (let more : suc (at x).index ≤ (at y).index = l.from in omega arith); before = l.before }) xs
          (rise_lies at file (suc (at x).index) xs m h.2),
    )

-- Elements at earlier tokens, and elements at later ones.
pub lies_before : {X Y : Type 0} (at : X → Position) (by : Y → Position) (file n k m : ℕ) (xs : List X) (ys : List Y) → AllByRecursion (Lies at file n k) xs →
    AllByRecursion (Lies by file k m) ys → Disjoint at by xs ys
lies_before at by file n k m xs ys a b =
    disjoint_by at by (Lies at file n k) (Lies by file k m)
    (λ x y p q e. let same : (at x).index ≡ (by y).index = ap (λ (z : Position). z.index) e in
    let left : (at x).index < k = p.before in
    let right : k ≤ (by y).index = q.from in absurd (omega arith)) xs ys a b

pub lies_behind : {X Y : Type 0} (at : X → Position) (by : Y → Position) (file n k m : ℕ) (xs : List X) (ys : List Y) → AllByRecursion (Lies at file k m) xs →
    AllByRecursion (Lies by file n k) ys → Disjoint at by xs ys
lies_behind at by file n k m xs ys a b =
    disjoint_by at by (Lies at file k m) (Lies by file n k)
    (λ x y p q e. let same : (at x).index ≡ (by y).index = ap (λ (z : Position). z.index) e in
    let left : (by y).index < k = q.before in
    let right : k ≤ (at x).index = p.from in absurd (omega arith)) xs ys a b

pub rise_apart : {X : Type 0} (at : X → Position) (file n : ℕ) (xs : List X) (m : ℕ) → RiseIn at file n xs m → Apart at xs
rise_apart at file n [] m h = tt
rise_apart at file n (x ∷ xs) m h = (
  all_as (Lies at file (suc (at x).index) m) (λ y. at x ≡ at y → ⊥)
      (λ y l e. let same : (at x).index ≡ (at y).index = ap (λ (z : Position). z.index) e in
      let more : suc (at x).index ≤ (at y).index = l.from in absurd (omega arith)) xs (rise_lies at file (suc (at x).index) xs m h.2),
  rise_apart at file (suc (at x).index) xs m h.2,
)

-- Elements in one file, and elements in later files.

abbrev pub InFile : {X : Type 0} → (X → Position) → ℕ → List X → Type 0
InFile at file xs = AllByRecursion (λ x. (at x).file ≡ file) xs

abbrev pub FromFile : {X : Type 0} → (X → Position) → ℕ → List X → Type 0
FromFile at file xs = AllByRecursion (λ x. file ≤ (at x).file) xs

pub rise_in_file : {X : Type 0} (at : X → Position) (file n : ℕ) (xs : List X) (m : ℕ) → RiseIn at file n xs m → InFile at file xs
rise_in_file at file n [] m h = tt
rise_in_file at file n (x ∷ xs) m h = (h.0, rise_in_file at file (suc (at x).index) xs m h.2)

pub file_before : {X Y : Type 0} (at : X → Position) (by : Y → Position) (file : ℕ) (xs : List X) (ys : List Y) → InFile at file xs →
    FromFile by (file + 1) ys → Disjoint at by xs ys
file_before at by file xs ys a b =
    disjoint_by at by (λ x. (at x).file ≡ file) (λ y. file + 1 ≤ (by y).file)
    (λ x y p q e. let same : (at x).file ≡ (by y).file = ap (λ (z : Position). z.file) e in
    let left : (at x).file ≡ file = p in
    let right : file + 1 ≤ (by y).file = q in absurd (omega arith)) xs ys a b

pub file_behind : {X Y : Type 0} (at : X → Position) (by : Y → Position) (file : ℕ) (xs : List X) (ys : List Y) → FromFile at (file + 1) xs →
    InFile by file ys → Disjoint at by xs ys
file_behind at by file xs ys a b =
    disjoint_by at by (λ x. file + 1 ≤ (at x).file) (λ y. (by y).file ≡ file)
    (λ x y p q e. let same : (at x).file ≡ (by y).file = ap (λ (z : Position). z.file) e in
    let left : (by y).file ≡ file = q in
    let right : file + 1 ≤ (at x).file = p in absurd (omega arith)) xs ys a b

pub file_first : {X : Type 0} (at : X → Position) (file : ℕ) (xs ys : List X) → InFile at file xs → FromFile at (file + 1) ys → FromFile at file (xs ++ ys)
file_first at file xs ys a b =
    all_append (λ x. file ≤ (at x).file) xs ys
    (all_as (λ x. (at x).file ≡ file) (λ x. file ≤ (at x).file) (λ x e. let same : (at x).file ≡ file = e in omega arith) xs a)
    (all_as (λ x. file + 1 ≤ (at x).file) (λ x. file ≤ (at x).file) (λ x le. let more : file + 1 ≤ (at x).file = le in omega arith) ys b)
