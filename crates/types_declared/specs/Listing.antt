-- Lists of faults, by the set of faults that they contain.
use Rattle.std.specs.Prelude.{ℕ, ◌<◌, ◌⊎◌, List, [], ◌∷◌, Contains}
use Rattle.types_declared.specs.declared.fault.Fault.{Fault}

-- the new list contains the faults of the old one and those with the property P, and no other
pub record AddsFaults (old new : List Fault) (P : Fault → Type 0) : Type 0 where
  pub keeps : (f : Fault) → Contains old f → Contains new f
  pub holds : (f : Fault) → P f → Contains new f
  pub only : (f : Fault) → Contains new f → Contains old f ⊎ P f

-- the list contains exactly the faults with the property P
pub record HoldsExactly (P : Fault → Type 0) (found : List Fault) : Type 0 where
  pub holds : (f : Fault) → P f → Contains found f
  pub only : (f : Fault) → Contains found f → P f

-- both lists contain the same faults
pub record HaveSameFaults (old new : List Fault) : Type 0 where
  pub keeps : (f : Fault) → Contains old f → Contains new f
  pub only : (f : Fault) → Contains new f → Contains old f

-- f is a fault of some item of the list
abbrev pub IsOfSomeItem : {X : Type 0} → (X → Fault → Type 0) → List X → Fault → Type 0
IsOfSomeItem Q [] f = ⊥
IsOfSomeItem Q (x ∷ xs) f = Q x f ⊎ IsOfSomeItem Q xs f

-- the new list contains the faults of the old one and those of the items xs, and no other
abbrev pub AddsEach : {X : Type 0} → (X → Fault → Type 0) → List Fault → List Fault → List X → Type 0
AddsEach Q old new xs = AddsFaults old new (IsOfSomeItem Q xs)

-- f is a fault of some number below n
abbrev pub IsFaultBelow : (ℕ → Fault → Type 0) → ℕ → Fault → Type 0
IsFaultBelow Q n f = (u : ℕ) × (u < n) × Q u f
