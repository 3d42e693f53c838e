-- What identifiers of a package are bound to where its tokens and identifiers get other numbers.
use Rattle.std.specs.Prelude.{ℕ, ◌≡◌, ◌↔◌, List, Some, slice_get, Contains}
use Rattle.go_ast.specs.SourceFile.{SourceFile, spelling_of}
use Rattle.go_scope.specs.Table.{IsFoundAt}
use Rattle.types_expr.specs.Judge.{MemberUse}
use Rattle.types_declared.specs.Package.{Package}
use Rattle.types_info.specs.QualifiedIdentifiers.{IsQualifiedByPath}
use Rattle.types_expr.specs.World.{World}
use Rattle.types_info.specs.Worlds.{IsWorldOf}
use Rattle.refs_binding.specs.declared.declaration.Declaration.{Declaration}
use Rattle.refs_binding.specs.Binding.{DeclaresMember, UsesMemberAt}
use Rattle.law_changed_types.specs.RenumberedPackage.{IsRenumberedPackage, NewNumbers}

-- The identifier is the first at its position.
abbrev pub IsFirstThere : Package → ℕ → Type 0
IsFirstThere p u = IsFoundAt p.layout p.size (p.layout.place u) u

-- An identifier is the selector of a qualified identifier of the same package.
abbrev pub QualifiersRenumber : Type 0
QualifiersRenumber = (n : NewNumbers) (p q : Package) → IsRenumberedPackage n p q → (u : ℕ) → IsFirstThere p u → IsFirstThere q (n.identifier u) →
    (path : List ℕ) → IsQualifiedByPath p u path ↔ IsQualifiedByPath q (n.identifier u) path

-- An identifier that declares a field or method declares it with its new number too.
abbrev pub MemberNamesRenumber : Type 0
MemberNamesRenumber = (n : NewNumbers) (p q : Package) → IsRenumberedPackage n p q → (u : ℕ) (d : Declaration) → DeclaresMember p u d →
    DeclaresMember q (n.identifier u) d

-- The file of p has a world in q too, and names at the given uses of members are spelled in q as in p.
pub record IsJudgedTwice (n : NewNumbers) (p q : Package) (file : ℕ) (uses : List MemberUse) : Type 0 where
  pub old : SourceFile
  pub old_at : slice_get p.files file ≡ Some old
  pub new : SourceFile
  pub new_at : slice_get q.files file ≡ Some new
  pub world : World
  pub is_world : IsWorldOf q file new world
  pub spelled : (u : MemberUse) → Contains uses u → spelling_of new (n.token file u.place) ≡ spelling_of old u.place

-- A token that is a use of a member is one at its new number, of the same member.
abbrev pub UsedMembersRenumber : Type 0
UsedMembersRenumber = (n : NewNumbers) (p q : Package) → IsRenumberedPackage n p q → (file token : ℕ) (d : Declaration) →
    (h : UsesMemberAt p file token d) → IsJudgedTwice n p q file h.uses → UsesMemberAt q file (n.token file token) d
