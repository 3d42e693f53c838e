-- Tokens that are numbered one by one up to another, where it is known which of them are `_`.
use Rattle.std.proofs.Common.{ℕ, suc, ◌≡◌, ◌<◌, ◌≤◌, List, [], ◌∷◌, ◌++◌, Bool, ap, refl, arith}
use Rattle.std.specs.List.{AllByRecursion}
use Rattle.go_ast.specs.declared.syntax.Kind.{Kind}
use Rattle.go_ast.specs.declared.syntax.Kind.TheVariants as kind
use Rattle.go_ast.specs.declared.syntax.Token.{Token}
use Rattle.go_scope.specs.Site.{Site, TokenSpellings}
use Rattle.go_scope.proofs.Covers.{Covers, ends, skips, takes, selects, keys}

-- B: that the token of that number is `_`
abbrev pub Strung : (B : ℕ → Type 0) → ℕ → List Token → ℕ → Type 0
Strung B n [] m = n ≡ m
Strung B n (t ∷ ts) m = (t.place ≡ n) × ((t.kind ≡ kind.Blank → B t.place) × Strung B (suc n) ts m)

pub strung_split : (B : ℕ → Type 0) (n : ℕ) (xs ys : List Token) (m : ℕ) → Strung B n (xs ++ ys) m → (k : ℕ) × (Strung B n xs k × Strung B k ys m)
strung_split B n [] ys m h = (n, (refl, h))
strung_split B n (t ∷ ts) ys m h = let r = strung_split B (suc n) ts ys m h.1.1 in (r.0, ((h.0, (h.1.0, r.1.0)), r.1.1))

pub strung_le : (B : ℕ → Type 0) (n : ℕ) (ts : List Token) (m : ℕ) → Strung B n ts m → n ≤ m
strung_le B n [] m h = let same : n ≡ m = h in omega arith
strung_le B n (t ∷ ts) m h = let le : suc n ≤ m = strung_le B (suc n) ts m h.1.1 in omega arith

-- identifiers stand before the end of their tokens
pub stand_below : (B : ℕ → Type 0) (P : Kind → Bool) (s : TokenSpellings) (n m : ℕ) (xs : List Site) (ts : List Token) → Covers P s xs ts → Strung B n ts m →
    AllByRecursion (λ x. x.place.index < m) xs
stand_below B P s n m _ _ ends h = tt
stand_below B P s n m xs _ (skips {ts = ts} k a) h = stand_below B P s (suc n) m xs ts a h.1.1
stand_below B P s n m _ _ (takes {x = x} {xs = xs} {t = t} {ts = ts} k i e a) h =
    let le : suc n ≤ m = strung_le B (suc n) ts m h.1.1 in
    let place : t.place ≡ n = h.0 in
    let same : x.place.index ≡ t.place = ap (λ (y : Site). y.place.index) e in (omega arith, stand_below B P s (suc n) m xs ts a h.1.1)
stand_below B P s n m _ _ (selects {x = x} {xs = xs} {d = d} {t = t} {ts = ts} dot out k w e a) h =
    let le : suc (suc n) ≤ m = strung_le B (suc (suc n)) ts m h.1.1.1.1 in
    let place : t.place ≡ suc n = h.1.1.0 in
    let same : x.place.index ≡ t.place = ap (λ (y : Site). y.place.index) e in (omega arith, stand_below B P s (suc (suc n)) m xs ts a h.1.1.1.1)
stand_below B P s n m _ _ (keys {x = x} {xs = xs} {t = t} {c = c} {ts = ts} colon out k w e a) h =
    let le : suc (suc n) ≤ m = strung_le B (suc (suc n)) ts m h.1.1.1.1 in
    let place : t.place ≡ n = h.0 in
    let same : x.place.index ≡ t.place = ap (λ (y : Site). y.place.index) e in (omega arith, stand_below B P s (suc (suc n)) m xs ts a h.1.1.1.1)
