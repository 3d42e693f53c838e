-- Tokens whose indices rise, from one bound to before another.
use Rattle.std.proofs.Common.{ℕ, ◌≤◌, List, [], ◌∷◌, ◌++◌, arith, suc}
use Rattle.go_ast.specs.declared.syntax.Token.{Token}
use Rattle.go_scope.specs.Trees.{AreRising}

abbrev pub Rises : ℕ → List Token → ℕ → Type 0
Rises n [] m = n ≤ m
Rises n (t ∷ ts) m = (n ≤ t.place) × Rises (suc t.place) ts m

pub rises_le : (n : ℕ) (ts : List Token) (m : ℕ) → Rises n ts m → n ≤ m
rises_le n [] m h = h
rises_le n (t ∷ ts) m h = let le : suc t.place ≤ m = rises_le (suc t.place) ts m h.1 in omega (arith, h.0)

pub rises_up : (n : ℕ) (ts : List Token) (k m : ℕ) → k ≤ m → Rises n ts k → Rises n ts m
rises_up n [] k m le h = omega arith
rises_up n (t ∷ ts) k m le h = (h.0, rises_up (suc t.place) ts k m le h.1)

pub rises_down : (n k : ℕ) (ts : List Token) (m : ℕ) → n ≤ k → Rises k ts m → Rises n ts m
rises_down n k [] m le h = omega arith
rises_down n k (t ∷ ts) m le h = (omega (arith, h.0), h.1)

pub rises_split : (n : ℕ) (xs ys : List Token) (m : ℕ) → Rises n (xs ++ ys) m → (k : ℕ) × (Rises n xs k × Rises k ys m)
rises_split n [] ys m h = (n, (omega arith, h))
rises_split n (t ∷ xs) ys m h = let r = rises_split (suc t.place) xs ys m h.1 in (r.0, ((h.0, r.1.0), r.1.1))

pub rises_of : (n : ℕ) (ts : List Token) → AreRising n ts → (m : ℕ) × Rises n ts m
rises_of n [] h = (n, omega arith)
rises_of n (t ∷ ts) h = let r = rises_of (suc t.place) ts h.1 in (r.0, (h.0, r.1))
