-- The declarations in inner blocks while identifiers are visited in order: for each name those whose blocks have not ended, last one first.
use Rattle.std.specs.Prelude.{ℕ, ◌≡◌, ◌<◌, ◌≤◌, List, [], ◌∷◌, length, Option, Some, None, slice_index_or}
use Rattle.go_scope.specs.declared.model.Block.{Block}
use Rattle.go_scope.specs.declared.model.Block.TheVariants.{Universe, Package, File, Inner}
use Rattle.go_scope.specs.declared.model.Position.{Position}
use Rattle.go_scope.specs.declared.model.Identifier.{Identifier}
use Rattle.go_scope.specs.declared.links.Links.{Links}
use Rattle.go_scope.specs.Bindings.{Layout, Names, InScope, block_of}
use Rattle.go_scope.specs.Leading.{IsLead, IsLeadInside}
use Rattle.go_scope.specs.Numbering.{numerals}
use Rattle.go_scope.specs.OuterBlocks.{AreOuter}
use Rattle.go_scope.specs.Table.{IsNearest, layout_of}

-- an inner block is of the position's file and ends after it; any other block does not end
abbrev pub EndsAfter : Block → Position → Type 0
EndsAfter (Inner f a b) p = (p.file ≡ f) × (p.index < b)
EndsAfter (File f) p = Unit {0}
EndsAfter Package p = Unit {0}
EndsAfter Universe p = Unit {0}

-- no identifier from n on, of `size` in all, lies before the end of e's block
abbrev pub IsOver : Layout → ℕ → ℕ → ℕ → Type 0
IsOver l size n e = (v : ℕ) → n ≤ v → v < size → EndsAfter (block_of (l.role e)) (l.place v) → ⊥

-- The last number below n that is the first declaration of the name in an inner block, or none. Later ones may be left out if their blocks
-- are over at n.
abbrev pub IsLastOpen : Layout → ℕ → Names → List ℕ → ℕ → Option ℕ → Type 0
IsLastOpen l size names name n None = (e : ℕ) → e < n → IsLeadInside l names name e → IsOver l size n e
IsLastOpen l size names name n (Some d) = (d < n) × IsLeadInside l names name d × ((e : ℕ) → d < e → e < n → IsLeadInside l names name e → IsOver l size n e)

-- `last` gives for each name's number its last declaration as in `IsLastOpen`
pub record AreLasts (l : Layout) (size : ℕ) (names : Names) (n : ℕ) (last : List (Option ℕ)) : Type 0 where
  pub sized : length last ≡ size
  pub each : (name : ℕ) (x : Option ℕ) → name < size → IsLastOpen l size names (name ∷ []) n (slice_index_or last name x)

-- `around` gives, for each first declaration of a name in an inner block, the one before it as in `IsLastOpen`; it has n entries
pub record AreOpenLinked (l : Layout) (size : ℕ) (names : Names) (n : ℕ) (around : List (Option ℕ)) : Type 0 where
  pub sized : length around ≡ n
  pub each : (d : ℕ) (x : Option ℕ) → d < n → IsLeadInside l names (names d) d → IsLastOpen l size names (names d) d (slice_index_or around d x)

-- d is the first declaration of the name in its inner block, and u is in its scope
abbrev pub IsVisibleInside : Layout → Names → List ℕ → ℕ → ℕ → Type 0
IsVisibleInside l names name u d = IsLeadInside l names name d × InScope l d u

-- `around` gives, for each other identifier below n, the nearest declaration of its name in an inner block with the identifier in its scope
abbrev pub AreNearest : Layout → Names → ℕ → List (Option ℕ) → Type 0
AreNearest l names n around =
    (u : ℕ) (x : Option ℕ) → u < n → (IsLead l names u → ⊥) → IsNearest l (IsVisibleInside l names (names u) u) (slice_index_or around u x)

-- the links are right for the first n identifiers, whose names are given by numbers
pub record AreNameLinks (xs : List Identifier) (numbers : List ℕ) (n : ℕ) (links : Links) : Type 0 where
  pub outer : AreOuter (layout_of xs) (numerals numbers) n links.outer
  pub lasts : AreLasts (layout_of xs) (length xs) (numerals numbers) n links.last.items
  pub linked : AreOpenLinked (layout_of xs) (length xs) (numerals numbers) n links.around.items
  pub near : AreNearest (layout_of xs) (numerals numbers) n links.around.items
