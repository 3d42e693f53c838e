-- The identifiers of a package in which imports without a name declare the names of the packages that they import.
use Rattle.std.specs.Prelude.{ℕ, suc, ◌≡◌, get_or, set, Bool, true, false, List, [], ◌∷◌, Option, Some, None, slice_get}
use Rattle.std.specs.Borrow.{Bor}
use Rattle.go_scope.specs.declared.model.Block.TheVariants.{File}
use Rattle.go_scope.specs.declared.model.Role.{Role}
use Rattle.go_scope.specs.declared.model.Role.TheVariants.{Declaring, NotLexical}
use Rattle.go_scope.specs.declared.model.Purpose.TheVariants.{UnnamedImport}
use Rattle.go_scope.specs.Packages.{ScopedPackage}
use Rattle.go_scope.specs.Site.{Site}

-- the role is that of the string literal of an import without a name
abbrev pub is_unnamed_import : Role → Bool
is_unnamed_import (NotLexical UnnamedImport) = true
is_unnamed_import r = false

-- an import's string literal as the declaration of a name in its file
abbrev pub named_import : Site → List ℕ → Site
named_import x name = record { place = x.place; name = name; role = Declaring (File x.place.file) 0 }

-- the identifier, declaring the name if it is marked as the literal of an import without a name and a name is given
abbrev pub named_where : (unnamed : Bool) → Option (List ℕ) → Site → Site
named_where true (Some name) x = named_import x name
named_where true None x = x
named_where false name x = x

-- the identifier, declaring the package's name if it is the string literal of an import without a name and a name is given
abbrev pub named_site : Option (List ℕ) → Site → Site
named_site name x = named_where (is_unnamed_import x.role) name x

-- the identifier of number u declares the name, if one is given and it is the string literal of an import without a name; all others stay
pub record NamesSite (old new : List Site) (u : ℕ) (name : Option (List ℕ)) : Type 0 where
  pub named : (d : Site) → new ≡ set old u (named_site name (get_or old u d))

-- the identifiers, each with the package's name that `names` gives for its number
unfoldable pub named_sites : (ℕ → Option (List ℕ)) → List Site → List Site
named_sites names [] = []
named_sites names (x ∷ xs) = named_site (names 0) x ∷ named_sites (λ u. names (suc u)) xs

-- the package in which imports without a name declare the names that are given
abbrev pub with_names : (ℕ → Option (List ℕ)) → ScopedPackage → ScopedPackage
with_names names p = record { files = p.files; sites = named_sites names p.sites }

-- an optional name without its borrow
abbrev pub name_value : Option (Bor (List ℕ)) → Option (List ℕ)
name_value None = None
name_value (Some name) = Some name.now

-- the name in a list's item, none beyond its end
abbrev pub name_in : Option (Option (Bor (List ℕ))) → Option (List ℕ)
name_in None = None
name_in (Some name) = name_value name

-- the name that a list gives for the number u
abbrev pub name_given : List (Option (Bor (List ℕ))) → ℕ → Option (List ℕ)
name_given names u = name_in (slice_get names u)
