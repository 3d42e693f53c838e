-- Packages: their files with their identifiers.
use Rattle.std.specs.Prelude.{ℕ, ◌≡◌, List, map, Option, Some, None, slice_get}
use Rattle.go_ast.specs.SourceFile.{FileParts, source_of, offset_of}
use Rattle.go_scope.specs.Bindings.{Layout, Names, IsIdentifier, IsBoundTo}
use Rattle.go_scope.specs.FileSites.{package_sites}
use Rattle.go_scope.specs.SpelledFiles.{spelled_file}
use Rattle.go_scope.specs.Site.{Site, sites_layout, sites_names}

-- the files of a package, in the order of their paths, and its identifiers
pub record ScopedPackage : Type 0 where
  pub files : List FileParts
  pub sites : List Site

-- the package of these files, which are in the order of their paths, with the identifiers in them
abbrev pub scoped : List FileParts → ScopedPackage
scoped fs = record { files = fs; sites = package_sites (map spelled_file fs) }

-- the layout of a package's identifiers
abbrev pub layout_in : ScopedPackage → Layout
layout_in p = sites_layout p.sites

-- the names of a package's identifiers
abbrev pub names_in : ScopedPackage → Names
names_in p = sites_names p.sites

-- in the package, identifier u is bound to declaration d
abbrev pub IsBoundIn : ScopedPackage → ℕ → ℕ → Type 0
IsBoundIn p u d = IsBoundTo (layout_in p) (names_in p) u d

-- the token of this index, in an optional file, begins at this path and byte offset
abbrev pub IsPlaceOf : Option FileParts → ℕ → List ℕ → ℕ → Type 0
IsPlaceOf None token path offset = ⊥
IsPlaceOf (Some f) token path offset = (f.path ≡ path) × (offset_of (source_of f) token ≡ offset)

-- the identifier u, or import's string literal, of a layout over these files begins at this path and byte offset
abbrev pub BeginsIn : List FileParts → Layout → List ℕ → ℕ → ℕ → Type 0
BeginsIn files l path offset u = IsIdentifier l u × IsPlaceOf (slice_get files (l.place u).file) (l.place u).index path offset

-- in the package, the identifier u, or import's string literal, begins at this path and byte offset
abbrev pub IsAtPlace : ScopedPackage → List ℕ → ℕ → ℕ → Type 0
IsAtPlace p path offset u = BeginsIn p.files (layout_in p) path offset u
