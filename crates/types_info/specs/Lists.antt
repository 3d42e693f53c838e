-- Lists of positions under the paths of imports.
use Rattle.std.specs.Prelude.{ℕ, ◌≡◌, ◌<◌, ◌+◌, ◌++◌, ◌⊎◌, ◌↔◌, List, [], ◌∷◌, Option, Some, None, Contains, length, option_map, slice_get, slice_index_or}
use Rattle.go_scope.specs.declared.model.Position.{Position}
use Rattle.types_info.specs.declared.lists.Qualified.{Qualified}
use Rattle.types_info.specs.declared.lists.Lists.{Lists}

-- the path of a list
abbrev pub list_path : Qualified → List ℕ
list_path list = list.path.items

-- the list at index k has this path and contains the position
pub record IsListedIn (all : List Qualified) (path : List ℕ) (at : Position) (k : ℕ) : Type 0 where
  pub list : Qualified
  pub has_number : slice_get all k ≡ Some list
  pub of_path : list_path list ≡ path
  pub holds : Contains list.places.items at

-- some list with this path contains the position
abbrev pub IsListedUnder : List Qualified → List ℕ → Position → Type 0
IsListedUnder all path at = (k : ℕ) × IsListedIn all path at k

-- the path of the list at an index, if there is one
abbrev pub listed_path : List Qualified → Option ℕ → Option (List ℕ)
listed_path all None = None
listed_path all (Some k) = option_map list_path (slice_get all k)

-- the path of the list of the declaration d, if it has one
abbrev pub path_for : Lists → ℕ → Option (List ℕ)
path_for lists d = listed_path lists.all.items (slice_index_or lists.numbers.items d None)

-- each index of a declaration's list is in range
abbrev pub AreWithin : Lists → Type 0
AreWithin lists = (d k : ℕ) → slice_index_or lists.numbers.items d None ≡ Some k → k < length lists.all.items

-- an empty list with this path was appended
pub record AddsList (old new : List Qualified) (path : List ℕ) : Type 0 where
  pub list : Qualified
  pub new_is : new ≡ old ++ (list ∷ [])
  pub of_path : list_path list ≡ path
  pub empty : list.places.items ≡ []

-- one more declaration was appended; it has a list with this path, or no list where there is no path
pub record AddsDeclaration (old new : Lists) (path : Option (List ℕ)) : Type 0 where
  pub within : AreWithin new
  pub size : length new.numbers.items ≡ length old.numbers.items + 1
  pub here : path_for new (length old.numbers.items) ≡ path
  pub kept : (d : ℕ) → d < length old.numbers.items → path_for new d ≡ path_for old d
  pub listed : (p : List ℕ) (at : Position) → IsListedUnder new.all.items p at → IsListedUnder old.all.items p at

-- the position was appended to the list at this index
pub record AddsPlace (old new : List Qualified) (number : ℕ) (at : Position) : Type 0 where
  pub before : Qualified
  pub after : Qualified
  pub was : slice_get old number ≡ Some before
  pub is : slice_get new number ≡ Some after
  pub same_path : list_path after ≡ list_path before
  pub places : after.places.items ≡ before.places.items ++ (at ∷ [])
  pub size : length new ≡ length old
  pub elsewhere : (k : ℕ) → (k ≡ number → ⊥) → slice_get new k ≡ slice_get old k

-- the position was added under the path, if there is one, and nothing else was
abbrev pub AddsUnder : (old new : List Qualified) → Option (List ℕ) → Position → Type 0
AddsUnder old new under at = (path : List ℕ) (x : Position) → IsListedUnder new path x ↔ (IsListedUnder old path x ⊎ ((under ≡ Some path) × (at ≡ x)))
