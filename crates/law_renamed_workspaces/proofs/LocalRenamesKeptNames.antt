-- Only scopes bind identifiers to a declaration that is not package-level. So its rename leaves all names but those at which they do.
use Rattle.std.proofs.Common.{ℕ, ◌≡◌, List, sym, subst}
use Rattle.base_files.specs.Workspace.{Workspace}
use Rattle.base_edits.specs.EditSet.{FileChanges}
use Rattle.go_scope.specs.Bindings as scopes
use Rattle.types_declared.specs.Package.{Package}
use Rattle.workspace_check.specs.Verdicts.{Verdicts}
use Rattle.refs_binding.specs.declared.declaration.Declaration.TheVariants.{Declared}
use Rattle.refs_binding.specs.Binding.{by_scope, by_package, by_member, by_name}
use Rattle.refs_binding.specs.Uses.{IsCheckedPackage, IsBoundToDeclaration}
use Rattle.refs_binding.proofs.Units.{one_package}
use Rattle.law_renamed_workspaces.proofs.OwnNames.{member_is_none}
use Rattle.law_renamed_workspaces.proofs.Called.{names}
use Rattle.law_renamed_workspaces.proofs.RenamedSets.{own_alone}
use Rattle.law_renamed_workspaces.specs.LocalRenames.{IsLocalRename, OwnScopesAloneBind, OtherNamesStay}

module _ (w : Workspace) (known : Verdicts) (p : Package) (n : ℕ) (name : List ℕ) (s : FileChanges) (h : IsLocalRename w known p n name s) (x : Package)
    (is : IsCheckedPackage w known x) where
  -- only scopes bind to the declaration
  bound_by : (u : ℕ) → IsBoundToDeclaration w known x u (Declared p.path n) → (x ≡ p) × scopes.IsBoundTo p.layout p.names u n
  bound_by u (by_scope b) =
      let one : x ≡ p = one_package w known x p is h.is_package (sym b.0) in
      (one, subst (λ (y : Package). scopes.IsBoundTo y.layout y.names u n) one b.2)
  bound_by u (by_package b) =
      let one : b.other ≡ p = one_package w known b.other p b.is_package h.is_package b.of_path in
      absurd (h.local (subst (λ (y : Package). scopes.IsPackageLevel y.layout n) one b.seen.package_level))
  bound_by u (by_member b) = absurd (member_is_none b.member p.path n b.declares)
  bound_by u (by_name b) = absurd b

pub own_scopes_bind : OwnScopesAloneBind
own_scopes_bind w known p n name s h x is u b = bound_by w known p n name s h x is u b

pub names_stay : OtherNamesStay
names_stay w known p n name s h x is at place token apart =
    names w known (Declared p.path n) name s h.rename x is at place token
    (λ e among u lt stands b.
    let set = h.rename.rename.set in
    let same : e ≡ Declared p.path n = own_alone (IsCheckedPackage w known) (Declared p.path n) set h.rename.rename.is_set (λ m. m) e among in
    let own = own_scopes_bind w known p n name s h x is u (subst (λ z. IsBoundToDeclaration w known x u z) same b) in
    apart u lt stands own.0 own.1)
