-- Fields and methods stay bound under a plain rename of a declaration of scopes, package-level or not.
use Rattle.std.specs.Prelude.{ℕ}
use Rattle.base_files.specs.Workspace.{Workspace}
use Rattle.base_files.specs.declared.place.Place.{Place}
use Rattle.base_edits.specs.Revisions.{Revision}
use Rattle.base_edits.specs.RevisionsOfEdits.{revision_of}
use Rattle.types_expr.specs.declared.symbol.Symbol.{Symbol}
use Rattle.types_declared.specs.Package.{Package}
use Rattle.workspace_check.specs.Verdicts.{Verdicts}
use Rattle.refs_binding.specs.declared.declaration.Declaration.TheVariants.{Field, Method}
use Rattle.refs_binding.specs.Binding.{BindsByMember, DeclaresMember}
use Rattle.refs_binding.specs.Identifiers.{BeginsAt}
use Rattle.refs_binding.specs.Uses.{IsCheckedPackage}
use Rattle.refactor_conflict.specs.MembersAfter.{CountsAfter}
use Rattle.refactor_conflict.specs.BoundAfter.{IsBoundByMember}
use Rattle.refactor_conflict.specs.Staying.{StaysByMember, StaysByName}
use Rattle.law_renamed_workspaces.specs.ScopeRenames.{OfScopeRenames}

-- If the identifier `u` of the package declares a field, the field counts under its new name. If it is a use of a field, its new name
-- selects this field.
pub record FieldStays (w : Workspace) (known : Verdicts) (r : Revision) (x : Package) (u : ℕ) (place : Place) : Type 0 where
  pub by_name : (f : Symbol) → DeclaresMember x u (Field f) → CountsAfter (IsCheckedPackage w known) r (Field f)
  pub by_member : (f : Symbol) (was : BindsByMember x u (Field f)) → IsBoundByMember (IsCheckedPackage w known) r place x u (Field f) was (Field f)

-- If the identifier `u` of the package declares a method, the method counts under its new name. If it is a use of a method, its new name
-- selects this method.
pub record MethodStays (w : Workspace) (known : Verdicts) (r : Revision) (x : Package) (u : ℕ) (place : Place) : Type 0 where
  pub by_name : (f : Symbol) → DeclaresMember x u (Method f) → CountsAfter (IsCheckedPackage w known) r (Method f)
  pub by_member : (f : Symbol) (was : BindsByMember x u (Method f)) → IsBoundByMember (IsCheckedPackage w known) r place x u (Method f) was (Method f)

-- That is so of each identifier of the workspace.
abbrev pub FieldsStay : Type 0
FieldsStay = OfScopeRenames (λ w known s. (x : Package) → IsCheckedPackage w known x → (u : ℕ) (place : Place) → BeginsAt x place.path place.offset u →
    FieldStays w known (revision_of w s) x u place)

abbrev pub MethodsStay : Type 0
MethodsStay = OfScopeRenames (λ w known s. (x : Package) → IsCheckedPackage w known x → (u : ℕ) (place : Place) → BeginsAt x place.path place.offset u →
    MethodStays w known (revision_of w s) x u place)

-- So no identifier that is bound to a member, or declares one, is lost or captured.
abbrev pub MembersStay : Type 0
MembersStay = OfScopeRenames (λ w known s. (x : Package) → IsCheckedPackage w known x → (u : ℕ) (place : Place) → BeginsAt x place.path place.offset u →
    StaysByMember w known (revision_of w s) x u place × StaysByName w known (revision_of w s) x u place)
