-- Other packages keep their names and the bindings of their scopes under a rename of a declaration that is not package-level.
use Rattle.std.proofs.Common.{ℕ, ◌≡◌, List, ap, sym, subst, ◌∙◌}
use Rattle.std.proofs.Math.Path.{fun_ext}
use Rattle.base_files.specs.Workspace.{Workspace}
use Rattle.base_edits.specs.EditSet.{FileChanges}
use Rattle.base_edits.specs.RevisionsOfEdits.{revision_of}
use Rattle.go_scope.specs.Bindings.{Layout, Names, Counts, IsBoundTo, IsPackageLevel}
use Rattle.types_declared.specs.Laid.{is_exported}
use Rattle.types_declared.specs.Package.{Package}
use Rattle.types_check.specs.Exports.{DoesExport}
use Rattle.workspace_check.specs.Verdicts.{Verdicts}
use Rattle.refs_binding.specs.declared.declaration.Declaration.{Declaration}
use Rattle.refs_binding.specs.declared.declaration.Declaration.TheVariants.{Predeclared, Declared, Field, Method}
use Rattle.refs_binding.specs.Binding.{BindsByScope}
use Rattle.refs_binding.specs.Uses.{IsBoundToDeclaration, IsCheckedPackage}
use Rattle.law_renamed_workspaces.specs.Layouts.{IsRelaid}
use Rattle.law_renamed_workspaces.proofs.RenamedScopesRenamed.{others_are_kept}
use Rattle.law_renamed_workspaces.specs.LocalRenames.{IsLocalRename}
use Rattle.law_renamed_workspaces.specs.OtherPackages.{KeepsScopes, OtherPackagesKeepScopes}
use Rattle.law_renamed_workspaces.proofs.LocalRenamesKeptNames.{own_scopes_bind}
use Rattle.law_renamed_workspaces.proofs.RenamedSets.{own_alone}

-- packages of one path, layout and names
record HasSameScopes (a b : Package) : Type 0 where
  path : b.path ≡ a.path
  layout : b.layout ≡ a.layout
  names : b.names ≡ a.names

bound_too : (a b : Package) → HasSameScopes a b → (u d : ℕ) → IsBoundTo a.layout a.names u d → IsBoundTo b.layout b.names u d
bound_too a b h u d k =
    subst (λ (l : Layout). IsBoundTo l b.names u d) (sym h.layout) (subst (λ (m : Names). IsBoundTo a.layout m u d) (sym h.names) k)

binds_too : (a b : Package) → HasSameScopes a b → (u : ℕ) (d : Declaration) → BindsByScope a u d → BindsByScope b u d
binds_too a b h u (Predeclared d) k = (k.0, bound_too a b h u d k.1)
binds_too a b h u (Declared path d) k = (k.0 ∙ sym h.path, k.1, bound_too a b h u d k.2)
binds_too a b h u (Field s) k = absurd k
binds_too a b h u (Method s) k = absurd k

exports_too : (a b : Package) → HasSameScopes a b → (d : ℕ) → DoesExport a d → DoesExport b d
exports_too a b h d k = record {
  package_level = subst (λ (l : Layout). IsPackageLevel l d) (sym h.layout) k.package_level;
  counts = subst (λ (l : Layout). Counts l b.names d) (sym h.layout) (subst (λ (m : Names). Counts a.layout m d) (sym h.names) k.counts);
  exported = ap (λ (m : Names). is_exported (m d)) h.names ∙ k.exported;
}

turned : (a b : Package) → HasSameScopes a b → HasSameScopes b a
turned a b h = record { path = sym h.path; layout = sym h.layout; names = sym h.names }

module _ (w : Workspace) (known : Verdicts) (p : Package) (n : ℕ) (name : List ℕ) (s : FileChanges) (h : IsLocalRename w known p n name s) (x q : Package)
    (is : IsCheckedPackage w known x) (other : x ≡ p → ⊥) (relaid : IsRelaid (revision_of w s) x q) where
  named : (u : ℕ) → q.names u ≡ x.names u
  named u =
      others_are_kept w known (Declared p.path n) name s h.rename x q is relaid u
      (λ inside some. other (own_scopes_bind w known p n name s h x is u (subst (IsBoundToDeclaration w known x u)
      (own_alone (IsCheckedPackage w known) (Declared p.path n) h.rename.rename.set h.rename.rename.is_set (λ m. m) some.declaration some.among) some.bound)).0)

  same : HasSameScopes x q
  same = record { path = relaid.path; layout = relaid.layout; names = fun_ext named }

  keeps : KeepsScopes x q
  keeps = record {
    names = named;
    bound = λ u d. (binds_too q x (turned x q same) u d, binds_too x q same u d);
    exports = λ d. (exports_too q x (turned x q same) d, exports_too x q same d);
  }

pub others_keep : OtherPackagesKeepScopes
others_keep w known p n name s h x q is other relaid = keeps w known p n name s h x q is other relaid
