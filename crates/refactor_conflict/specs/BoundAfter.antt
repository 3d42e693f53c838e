-- What an identifier is bound to after a change, by the scopes of the workspace after it. Each identifier is judged for itself.
use Rattle.std.specs.Prelude.{ℕ, ◌≡◌, List}
use Rattle.base_files.specs.Workspace.{Workspace}
use Rattle.base_files.specs.declared.place.Place.{Place}
use Rattle.go_scope.specs.declared.model.Position.{Position}
use Rattle.types_expr.specs.declared.symbol.Symbol.{Symbol}
use Rattle.types_expr.specs.Types.{PlainType}
use Rattle.types_expr.specs.World.{Definition}
use Rattle.types_declared.specs.Package.{Package, spelled}
use Rattle.types_check.specs.Exports.{DoesExport}
use Rattle.workspace_check.specs.Verdicts.{Verdicts}
use Rattle.refs_binding.specs.declared.declaration.Declaration.{Declaration}
use Rattle.refs_binding.specs.declared.declaration.Declaration.TheVariants.{Declared}
use Rattle.types_info.specs.QualifiedIdentifiers.{IsQualifiedByPath}
use Rattle.refs_binding.specs.Binding.{BindsByMember}
use Rattle.refs_binding.specs.Uses.{IsCheckedPackage}
use Rattle.base_edits.specs.Revisions.{Revision, PackageMovesTo}
use Rattle.refactor_conflict.specs.MembersAfter.{IsMemberAfter}
use Rattle.refactor_conflict.specs.ScopedPackages.{IsScopedIn}
use Rattle.refactor_conflict.specs.Corresponding.{Corresponds}
use Rattle.refactor_conflict.specs.ScopeBindings.{IsScopeUse}

-- The declaration `c` of the workspace before the change has become the declaration `e` of the scopes after it.
abbrev pub HasBecome : Workspace → Verdicts → Revision → Declaration → Declaration → Type 0
HasBecome w before r c e = Corresponds (IsCheckedPackage w before) (IsScopedIn r.after) r.moved c e

-- The scopes after the change bind to `e` the identifier at the place to which `place` is moved.
abbrev pub IsBoundByScopes : Revision → Place → Declaration → Type 0
IsBoundByScopes r place e = IsScopeUse r.after e (r.moved place)

-- The package that had this path before the change exports `e` as `name` after it, at the path to which the package has moved.
pub record IsExportAfter (w : Workspace) (r : Revision) (path name : List ℕ) (e : Declaration) : Type 0 where
  pub other : Package
  pub is_package : IsScopedIn r.after other
  pub goes : PackageMovesTo w r path other.path
  pub declaration : ℕ
  pub seen : DoesExport other declaration
  pub named : other.names declaration ≡ name
  pub exported : e ≡ Declared other.path declaration

-- The identifier `u` is the selector of a qualified identifier. After the change the package of that import exports `e` under the new name
-- of `u`.
pub record IsBoundByPackage (w : Workspace) (r : Revision) (place : Place) (p : Package) (u : ℕ) (e : Declaration) : Type 0 where
  pub path : List ℕ
  pub behind : IsQualifiedByPath p u path
  pub exports : IsExportAfter w r path (r.called place (p.names u)) e

-- The identifier at the position `at` selects the member `e` of the type `before` after the change. The type keeps its fields and methods
-- from before the change, and they have their new names. `definitions`: the type definitions by symbol.
abbrev pub SelectsAfter : (Known : Package → Type 0) → Revision → (Symbol → Definition) → Package → Position → PlainType → Place → Declaration → Type 0
SelectsAfter Known r definitions p at before place e =
    IsMemberAfter Known r p.path (r.called place (spelled p at.file at.index)) (λ s. (definitions s).underlying) before e

-- The new name of the identifier `u` selects the member `e` after the change. The type is the one of which `u` selected a member before.
abbrev pub IsBoundByMember : (Known : Package → Type 0) → Revision → Place → (p : Package) (u : ℕ) (old : Declaration) → BindsByMember p u old →
    Declaration → Type 0
IsBoundByMember Known r place p u old was e =
    IsMemberAfter Known r p.path (r.called place (spelled p (p.layout.place u).file (p.layout.place u).index)) was.judged.world.definition was.found.before e
