-- The places of the declarations of a workspace. `IsPackage`: the packages of the workspace.
use Rattle.std.specs.Prelude.{ℕ, ◌≡◌, List, Option, Some, None, slice_get}
use Rattle.base_files.specs.declared.place.Place.{Place}
use Rattle.go_ast.specs.SourceFile.{SourceFile, offset_of}
use Rattle.go_scope.specs.declared.model.Position.{Position}
use Rattle.go_scope.specs.Bindings.{Counts}
use Rattle.types_declared.specs.Laid.{literal_of}
use Rattle.types_declared.specs.Package.{Package}
use Rattle.refs_binding.specs.declared.declaration.Declaration.{Declaration}
use Rattle.refs_binding.specs.declared.declaration.Declaration.TheVariants.{Predeclared, Declared, Field, Method}
use Rattle.refs_binding.specs.Binding.{IsPredeclaredNumber, IsFieldAt, IsMethodAt}

-- `P` holds for the package of this path.
pub record InPackage (IsPackage : Package → Type 0) (path : List ℕ) (P : Package → Type 0) : Type 0 where
  pub inside : Package
  pub is_package : IsPackage inside
  pub of_path : inside.path ≡ path
  pub holds : P inside

-- `P` holds for the package of a declaration, which is not predeclared.
abbrev pub InHomePackage : (Package → Type 0) → Declaration → (Package → Type 0) → Type 0
InHomePackage IsPackage (Predeclared d) P = ⊥
InHomePackage IsPackage (Declared path d) P = InPackage IsPackage path P
InHomePackage IsPackage (Field s) P = InPackage IsPackage s.package P
InHomePackage IsPackage (Method s) P = InPackage IsPackage s.package P

-- The token of the file begins at the place.
abbrev pub TokenBegins : Option SourceFile → ℕ → Place → Type 0
TokenBegins None token place = ⊥
TokenBegins (Some f) token place = (f.path ≡ place.path) × (offset_of f token ≡ place.offset)

-- The token at a position in a package begins at the place.
abbrev pub TokenAt : Package → Position → Place → Type 0
TokenAt p at place = TokenBegins (slice_get p.files at.file) at.index place

-- The declaration `d` of the package's own scopes counts and is at this position. An import is at the position of its path literal, even if
-- it has a name.
pub record IsScopeAt (p : Package) (d : ℕ) (at : Position) : Type 0 where
  pub own : IsPredeclaredNumber d → ⊥
  pub counts : Counts p.layout p.names d
  pub stands : p.layout.place (literal_of p.layout d) ≡ at

-- The package declares the declaration at this position. A predeclared name has no position.
abbrev pub IsPositionOf : Package → Declaration → Position → Type 0
IsPositionOf p (Predeclared d) at = ⊥
IsPositionOf p (Declared path d) at = IsScopeAt p d at
IsPositionOf p (Field s) at = IsFieldAt p s.rank at
IsPositionOf p (Method s) at = IsMethodAt p s.rank at

-- A declaration of the package is declared at the place.
pub record HasDeclarationAt (p : Package) (d : Declaration) (place : Place) : Type 0 where
  pub at : Position
  pub is_at : IsPositionOf p d at
  pub begins : TokenAt p at place

-- The declaration is declared at the place. A predeclared name has no place.
abbrev pub IsDeclaredAt : (Package → Type 0) → Declaration → Place → Type 0
IsDeclaredAt IsPackage d place = InHomePackage IsPackage d (λ p. HasDeclarationAt p d place)
