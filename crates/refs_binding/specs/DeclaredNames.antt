-- The names of the declarations of a workspace. `IsPackage`: the packages of the workspace.
use Rattle.std.specs.Prelude.{ℕ, ◌≡◌, ◌<◌, List}
use Rattle.go_scope.specs.declared.model.Position.{Position}
use Rattle.types_declared.specs.Package.{Package, spelled}
use Rattle.refs_binding.specs.declared.declaration.Declaration.{Declaration}
use Rattle.refs_binding.specs.declared.declaration.Declaration.TheVariants.{Predeclared, Declared, Field, Method}
use Rattle.refs_binding.specs.Binding.{IsFieldAt, IsMethodAt}
use Rattle.refs_binding.specs.DeclaringPlaces.{InHomePackage}

-- The member of this rank counts, and `name` is the spelling of its declaring identifier.
pub record HasMemberName (IsAt : (rank : ℕ) → Position → Type 0) (p : Package) (rank : ℕ) (name : List ℕ) : Type 0 where
  pub at : Position
  pub is_at : IsAt rank at
  pub called : spelled p at.file at.index ≡ name

-- `name` is the name of a declaration of the package. An import without a name has the name of the package that it imports.
abbrev pub HasDeclaredNameIn : Package → Declaration → List ℕ → Type 0
HasDeclaredNameIn p (Predeclared d) name = ⊥
HasDeclaredNameIn p (Declared path d) name = (d < p.size) × (p.names d ≡ name)
HasDeclaredNameIn p (Field s) name = HasMemberName (IsFieldAt p) p s.rank name
HasDeclaredNameIn p (Method s) name = HasMemberName (IsMethodAt p) p s.rank name

-- `name` is the name of a declaration that is not predeclared.
abbrev pub HasDeclaredName : (Package → Type 0) → Declaration → List ℕ → Type 0
HasDeclaredName IsPackage d name = InHomePackage IsPackage d (λ p. HasDeclaredNameIn p d name)
