-- The program's list of identifiers as a layout with names.
use Rattle.std.specs.Prelude.{ℕ, List, [], ◌≡◌, ◌<◌, ◌⊎◌, Option, Some, None, slice_get}
use Rattle.go_scope.specs.declared.model.Position.{Position}
use Rattle.go_scope.specs.declared.model.Role.{Role}
use Rattle.go_scope.specs.declared.model.Role.TheVariants.{NotLexical}
use Rattle.go_scope.specs.declared.model.Purpose.TheVariants.{Blank}
use Rattle.go_scope.specs.declared.model.Identifier.{Identifier}
use Rattle.go_scope.specs.Scopes.{Nests}
use Rattle.go_scope.specs.Bindings.{Layout, Names, SameBlock, InScope, IsIdentifier, block_of}
use Rattle.go_scope.specs.Leading.{IsLead}

-- the role of an optional identifier
abbrev pub role_at : Option Identifier → Role
role_at None = NotLexical Blank
role_at (Some x) = x.role

-- the position of an optional identifier
abbrev pub place_at : Option Identifier → Position
place_at None = record { file = 0; index = 0 }
place_at (Some x) = x.place

-- the name of an optional identifier
abbrev pub name_at : Option Identifier → List ℕ
name_at None = []
name_at (Some x) = x.name.now

-- the layout of the program's list of identifiers
abbrev pub layout_of : List Identifier → Layout
layout_of xs = record { role = λ i. role_at (slice_get xs i); place = λ i. place_at (slice_get xs i) }

-- the names of the program's list of identifiers
abbrev pub names_of : List Identifier → Names
names_of xs = λ i. name_at (slice_get xs i)

-- d is the first declaration of the name in its block, and u is in its scope
abbrev pub IsCandidate : Layout → Names → List ℕ → ℕ → ℕ → Type 0
IsCandidate l names name u d = (names d ≡ name) × InScope l d u × IsLead l names d

-- the declaration a takes a use from b, where both have its name and it is in both scopes: a is first in the same block, or its block lies
-- in b's
abbrev pub Precedes : Layout → ℕ → ℕ → Type 0
Precedes l a b = (SameBlock l a b × (a < b)) ⊎ Nests (block_of (l.role a)) (block_of (l.role b))

-- the number that satisfies P and precedes all others that do, or none
abbrev pub IsNearest : Layout → (ℕ → Type 0) → Option ℕ → Type 0
IsNearest l P None = (d : ℕ) → P d → ⊥
IsNearest l P (Some b) = P b × ((d : ℕ) → P d → (d ≡ b) ⊎ Precedes l b d)

-- u is an identifier in a file, at this position
abbrev pub LiesAt : Layout → Position → ℕ → Type 0
LiesAt l place u = IsIdentifier l u × ((l.place u).file ≡ place.file) × ((l.place u).index ≡ place.index)

-- u is the first number below `size` that satisfies P
pub record IsFirstOf (P : ℕ → Type 0) (size u : ℕ) : Type 0 where
  pub within : u < size
  pub holds : P u
  pub first : (v : ℕ) → v < u → P v → ⊥

-- u is the first of `size` identifiers at this position
abbrev pub IsFoundAt : Layout → ℕ → Position → ℕ → Type 0
IsFoundAt l size place u = IsFirstOf (LiesAt l place) size u
