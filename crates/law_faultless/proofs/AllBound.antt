-- In a workspace without faults no identifier is bound to nothing, but those that stand for none.
use Rattle.std.proofs.Common.{ℕ, ◌≡◌, inl, inr, true, false, List, [], ap, sym, refl}
use Rattle.std.proofs.lemmas.Bool.{cases_Bool, true≢false}
use Rattle.base_files.specs.Workspace.{Workspace}
use Rattle.go_scope.specs.declared.model.Purpose.TheVariants as purpose
use Rattle.go_scope.specs.declared.model.Role.{Role}
use Rattle.go_scope.specs.declared.model.Role.TheVariants.{Use, Declaring, LeftName, Implied, NotLexical}
use Rattle.types_declared.specs.Package.{Package}
use Rattle.workspace_check.specs.FaultLists.{ListsFaults}
use Rattle.workspace_check.specs.Verdicts.{Verdicts, AreVerdicts}
use Rattle.refs_binding.specs.declared.declaration.Declaration.{Declaration}
use Rattle.refs_binding.specs.Identifiers.{IsInFiles, named_by}
use Rattle.refs_binding.specs.Uses.{IsCheckedPackage, IsBoundToDeclaration, HasNoDeclaration}
use Rattle.refs_lookup.proofs.LiteralNames.{name_stands}
use Rattle.law_faultless.specs.Roles.{is_bound_role, is_ever_bound}
use Rattle.law_faultless.proofs.Bound.{identifier_bound}
use Rattle.law_faultless.proofs.MembersBound.{no_member_unbound}

module _ (w : Workspace) (sound : ListsFaults w []) (known : Verdicts) (right : AreVerdicts w known) (p : Package) (is : IsCheckedPackage w known p) (u : ℕ)
    (stands : IsInFiles p u) (unbound : (d : Declaration) → IsBoundToDeclaration w known p u d → ⊥) where
  bound_no : is_bound_role (p.layout.role u) ≡ true → ⊥
  bound_no e = let d = identifier_bound w sound known right p is u stands e in unbound d.0 d.1

  by_role : (r : Role) → p.layout.role u ≡ r → is_ever_bound r ≡ true → ⊥
  by_role Use role e = bound_no (ap is_bound_role role)
  by_role (Declaring block start) role e = bound_no (ap is_bound_role role)
  by_role (LeftName block start) role e = bound_no (ap is_bound_role role)
  by_role (Implied block start) role e = bound_no (ap is_bound_role role)
  by_role (NotLexical purpose.Selected) role e = bound_no (ap is_bound_role role)
  by_role (NotLexical purpose.Key) role e = bound_no (ap is_bound_role role)
  by_role (NotLexical purpose.Member) role e = no_member_unbound w sound known right p is u stands unbound role
  by_role (NotLexical purpose.PackageClause) role e = true≢false (sym e)
  by_role (NotLexical purpose.ImportPath) role e = true≢false (sym e)
  by_role (NotLexical purpose.UnnamedImport) role e = true≢false (sym e)
  by_role (NotLexical purpose.InitFunction) role e = true≢false (sym e)
  by_role (NotLexical purpose.Blank) role e = true≢false (sym e)

  pub none_unbound : is_ever_bound (p.layout.role u) ≡ true → ⊥
  none_unbound e = by_role (p.layout.role u) refl e

-- what has no declaration is one of these
pub no_declaration : (w : Workspace) → ListsFaults w [] → (path : List ℕ) (offset : ℕ) (h : HasNoDeclaration w path offset) →
    is_ever_bound (h.asked_in.layout.role (named_by h.asked_in.layout h.number)) ≡ false
no_declaration w sound path offset h =
    let p = h.asked_in in
    let u = named_by p.layout h.number in
    elim (cases_Bool (is_ever_bound (p.layout.role u))) [
      | inl e ↦ absurd (none_unbound w sound h.known h.right p h.is_asked.is_package u
          (name_stands w h.known p.path p h.is_asked.is_package.is_checked h.number h.at.0) h.unbound e)
      | inr e ↦ e
    ]
