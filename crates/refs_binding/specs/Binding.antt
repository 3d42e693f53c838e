-- The binding relation of packages without faults. An identifier is bound by a scope, in a qualified identifier, as a use of a member, or
-- as a member's declaring identifier.
use Rattle.std.specs.Prelude.{ℕ, ◌≡◌, ◌<◌, List, length, Contains, Some}
use Rattle.go_scope.specs.declared.model.Position.{Position}
use Rattle.go_scope.specs.Bindings.{IsBoundTo}
use Rattle.go_scope.specs.FileSites.{universe}
use Rattle.go_scope.specs.Table.{LiesAt}
use Rattle.types_expr.specs.Judge.{MemberUse}
use Rattle.types_expr.specs.World.{Member, AField, AMethod, ABrokenMethod}
use Rattle.types_declared.specs.Package.{Package, function_place}
use Rattle.types_check.specs.Exports.{DoesExport}
use Rattle.types_declared.specs.Definitions.{PlacedField}
use Rattle.types_members.specs.MembersView.{CountsAsField, CountsAsMethod}
use Rattle.types_info.specs.MemberUses.{AreUsesIn}
use Rattle.types_info.specs.QualifiedIdentifiers.{IsQualifiedByPath}
use Rattle.refs_binding.specs.declared.declaration.Declaration.{Declaration}
use Rattle.refs_binding.specs.declared.declaration.Declaration.TheVariants.{Predeclared, Declared, Field, Method}

-- By scopes

-- `d` is the number of a predeclared name. These come first, with equal numbers in all packages.
abbrev pub IsPredeclaredNumber : ℕ → Type 0
IsPredeclaredNumber d = d < length universe

-- The scopes of the package bind `u` to the declaration, which is predeclared or declared in a scope of this package.
abbrev pub BindsByScope : Package → ℕ → Declaration → Type 0
BindsByScope p u (Predeclared d) = IsPredeclaredNumber d × IsBoundTo p.layout p.names u d
BindsByScope p u (Declared path d) = (path ≡ p.path) × (IsPredeclaredNumber d → ⊥) × IsBoundTo p.layout p.names u d
BindsByScope p u (Field s) = ⊥
BindsByScope p u (Method s) = ⊥

-- Behind the name of a package

-- `u` is `N` in a qualified identifier `q.N`, where `q` names another package, which exports `d` under the name `N`. In this example `u` is
-- the identifier `Println`:
--
--   import "fmt"
--   func main() { fmt.Println() }
pub record IsQualifiedUse (IsPackage : Package → Type 0) (p : Package) (u : ℕ) (path : List ℕ) (d : ℕ) : Type 0 where
  pub behind : IsQualifiedByPath p u path
  pub other : Package
  pub is_package : IsPackage other
  pub of_path : other.path ≡ path
  pub seen : DoesExport other d
  pub named : other.names d ≡ p.names u

-- `u` is `N` in a qualified identifier `q.N` and bound to the declaration that the package of `q` exports under the name `N`.
abbrev pub BindsQualified : (IsPackage : Package → Type 0) → Package → ℕ → Declaration → Type 0
BindsQualified IsPackage p u (Predeclared d) = ⊥
BindsQualified IsPackage p u (Declared path d) = IsQualifiedUse IsPackage p u path d
BindsQualified IsPackage p u (Field s) = ⊥
BindsQualified IsPackage p u (Method s) = ⊥

-- As a member

-- The declaration of a member: a field or a method.
abbrev pub declaration_of : Member → Declaration
declaration_of (AField s t) = Field s
declaration_of (AMethod s on_pointer signature) = Method s
declaration_of (ABrokenMethod s) = Method s

-- The token is a selector or a composite literal key, and names the member `d` of the type of the operand or literal. Here the second and
-- the third `X` are bound to the field:
--
--   type T struct { X int }
--   var t = T{X: 1}
--   var x = t.X
pub record UsesMemberAt (p : Package) (file token : ℕ) (d : Declaration) : Type 0 where
  pub uses : List MemberUse
  pub judged : AreUsesIn p file uses
  pub found : MemberUse
  pub is_use : Contains uses found
  pub at : found.place ≡ token
  pub member : Member
  pub is_member : judged.world.member token found.before ≡ Some member
  pub declares : declaration_of member ≡ d

-- `u` is a selector or a composite literal key that names the member `d`.
abbrev pub BindsByMember : Package → ℕ → Declaration → Type 0
BindsByMember p u d = UsesMemberAt p (p.layout.place u).file (p.layout.place u).index d

-- As the name by which a member is declared

-- The position of a field's name.
abbrev pub field_place : PlacedField → Position
field_place f = record { file = f.file; index = f.name }

-- The field of this rank counts, and its name is at this position.
pub record IsFieldAt (p : Package) (rank : ℕ) (at : Position) : Type 0 where
  pub counts : CountsAsField p rank
  pub named_at : field_place counts.field ≡ at

-- The method of this rank counts, and its name is at this position.
pub record IsMethodAt (p : Package) (rank : ℕ) (at : Position) : Type 0 where
  pub counts : CountsAsMethod p rank
  pub named_at : function_place counts.method ≡ at

-- `u` is the declaring identifier of the member of this rank.
pub record IsNameOf (IsAt : (rank : ℕ) → Position → Type 0) (p : Package) (u : ℕ) (rank : ℕ) : Type 0 where
  pub at : Position
  pub is_at : IsAt rank at
  pub stands : LiesAt p.layout at u

-- `u` is the declaring identifier of this field or method of the package.
abbrev pub DeclaresMember : Package → ℕ → Declaration → Type 0
DeclaresMember p u (Predeclared d) = ⊥
DeclaresMember p u (Declared path d) = ⊥
DeclaresMember p u (Field s) = (s.package ≡ p.path) × IsNameOf (IsFieldAt p) p u s.rank
DeclaresMember p u (Method s) = (s.package ≡ p.path) × IsNameOf (IsMethodAt p) p u s.rank

-- The identifier `u` of the package `p` is bound to the declaration. `IsPackage`: the packages of the workspace, as they are checked.
pub data Binds (IsPackage : Package → Type 0) (p : Package) (u : ℕ) (d : Declaration) : Type 0 where
  by_scope : BindsByScope p u d → Binds IsPackage p u d
  by_package : BindsQualified IsPackage p u d → Binds IsPackage p u d
  by_member : BindsByMember p u d → Binds IsPackage p u d
  by_name : DeclaresMember p u d → Binds IsPackage p u d
