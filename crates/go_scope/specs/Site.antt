-- Identifiers with their positions, names and roles, and the layout and names of a list of them.
use Rattle.std.specs.Prelude.{ℕ, List, [], Option, Some, None, slice_get}
use Rattle.go_scope.specs.declared.model.Position.{Position}
use Rattle.go_scope.specs.declared.model.Role.{Role}
use Rattle.go_scope.specs.declared.model.Role.TheVariants.{NotLexical}
use Rattle.go_scope.specs.declared.model.Purpose.TheVariants.{Blank}
use Rattle.go_scope.specs.Bindings.{Layout, Names}

-- an identifier: its position, name and role
pub record Site : Type 0 where
  pub place : Position
  pub name : List ℕ
  pub role : Role

-- a file of a package: its rank by path, and the bytes of each token
pub record TokenSpellings : Type 0 where
  pub rank : ℕ
  pub spell : ℕ → List ℕ

-- the identifier of the token of index i, with this role
abbrev pub site : TokenSpellings → ℕ → Role → Site
site s i role = record { place = record { file = s.rank; index = i }; name = s.spell i; role = role }

-- an optional identifier; where there is none, a `_` without a name
abbrev pub or_blank : Option Site → Site
or_blank None = record { place = record { file = 0; index = 0 }; name = []; role = NotLexical Blank }
or_blank (Some x) = x

-- the layout of a list of identifiers
abbrev pub sites_layout : List Site → Layout
sites_layout xs = record { role = λ i. (or_blank (slice_get xs i)).role; place = λ i. (or_blank (slice_get xs i)).place }

-- the names of a list of identifiers
abbrev pub sites_names : List Site → Names
sites_names xs = λ i. (or_blank (slice_get xs i)).name
