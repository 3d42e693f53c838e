-- Tables by name after a move.
use Rattle.std.specs.Prelude.{ℕ, ◌≡◌, List, Option, Some, None}
use Rattle.std.specs.BTreeMap.{BTreeMap, get_by}
use Rattle.std.specs.Cmp.Lexicographic.{slice_cmp}
use Rattle.std.specs.Global.{Vec}
use Rattle.std.specs.Ordering.{nat_cmp}

-- the value under a name
abbrev pub entry_at : {X : Type 0} → BTreeMap (Vec ℕ) X → List ℕ → Option X
entry_at table name = get_by (λ key. slice_cmp nat_cmp name key.items) table

-- There is a value in both places, and the two are related, or there is none in both.
abbrev pub AreRelated : {X : Type 0} → (X → X → Type 0) → (old new : Option X) → Type 0
AreRelated R None None = Unit {0}
AreRelated R (Some a) (Some b) = R a b
AreRelated R None (Some b) = ⊥
AreRelated R (Some a) None = ⊥

-- The tables have values under the same names, and these are related.
abbrev pub HasRelated : {X : Type 0} → (X → X → Type 0) → (old new : BTreeMap (Vec ℕ) X) → Type 0
HasRelated R old new = (name : List ℕ) → AreRelated R (entry_at old name) (entry_at new name)

-- A value that is related to `value` was added under the name, unless there was one. Other names keep their values.
pub record AddsRelated {X : Type 0} (R : X → X → Type 0) (old new : BTreeMap (Vec ℕ) X) (name : List ℕ) (value : X) : Type 0 where
  pub stays : (x : X) → entry_at old name ≡ Some x → entry_at new name ≡ Some x
  pub comes : entry_at old name ≡ None → AreRelated R (Some value) (entry_at new name)
  pub others : (other : List ℕ) → (other ≡ name → ⊥) → entry_at new other ≡ entry_at old other
