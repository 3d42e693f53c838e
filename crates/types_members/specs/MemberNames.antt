-- Sets of names, one for each type definition.
use Rattle.std.specs.Prelude.{ℕ, ◌≡◌, ◌<◌, Bool, true, false, List, Option, Some, None, slice_get}
use Rattle.std.specs.Borrow.{Bor}
use Rattle.std.specs.BTreeSet.{BTreeSet, contains_by}
use Rattle.std.specs.Cmp.Lexicographic.{slice_cmp}
use Rattle.std.specs.Ordering.{nat_cmp}
use Rattle.types_members.specs.declared.member_names.MemberNames.{MemberNames}

-- whether a name is in a set
abbrev pub has_name : BTreeSet (Bor (List ℕ)) → List ℕ → Bool
has_name row name = contains_by (λ key. slice_cmp nat_cmp name key.now) row

-- whether a name is in a set, if there is one
abbrev pub row_has : Option (BTreeSet (Bor (List ℕ))) → List ℕ → Bool
row_has None name = false
row_has (Some row) name = has_name row name

-- whether a name is in the set of a definition
abbrev pub is_noted : MemberNames → ℕ → List ℕ → Bool
is_noted names definition name = row_has (slice_get names.rows.items definition) name

-- the name is in the new set, and all other names are in it as before
pub record SetsName (old new : List ℕ → Bool) (name : List ℕ) : Type 0 where
  pub here : new name ≡ true
  pub elsewhere : (n : List ℕ) → (n ≡ name → ⊥) → new n ≡ old n

-- the name is in the definition's new set, and all else is as before
pub record AddsMemberName (old new : ℕ → List ℕ → Bool) (definition : ℕ) (name : List ℕ) : Type 0 where
  pub here : new definition name ≡ true
  pub elsewhere : (d : ℕ) (n : List ℕ) → (d ≡ definition → n ≡ name → ⊥) → new d n ≡ old d n

-- A relation between items by number, definitions and names: the item belongs to the definition and has the name.
abbrev pub NameRelation : Type 1
NameRelation = (item definition : ℕ) → List ℕ → Type 0

-- the sets have exactly the names of the items below count
pub record AreNamesBelow (K : NameRelation) (count : ℕ) (noted : ℕ → List ℕ → Bool) : Type 0 where
  pub holds : (item d : ℕ) (n : List ℕ) → item < count → K item d n → noted d n ≡ true
  pub only : (d : ℕ) (n : List ℕ) → noted d n ≡ true → (item : ℕ) × ((item < count) × K item d n)
