-- A rename leaves the name in a package clause as it is, so each package keeps its name and has no fault of clauses.
use Rattle.std.proofs.Common.{ℕ, ◌≡◌, inl, inr, List, ap, refl, sym, ◌∙◌}
use Rattle.std.specs.Prelude.{Some, slice_get}
use Rattle.base_edits.specs.EditSet.{FileChanges}
use Rattle.base_files.specs.Workspace.{Workspace}
use Rattle.go_ast.specs.SourceFile.{SourceFile, spelling_of}
use Rattle.go_scope.specs.declared.model.Role.TheVariants.{NotLexical}
use Rattle.go_scope.specs.declared.model.Purpose.TheVariants as purpose
use Rattle.go_scope.specs.FileSites.{file_sites}
use Rattle.go_scope.specs.Site.{TokenSpellings, Site, site}
use Rattle.std.specs.List.{AllByRecursion}
use Rattle.law_tokens.proofs.Lexical.{never_bound}
use Rattle.law_tokens.proofs.Ordered.{one_stands}
use Rattle.types_declared.specs.Package.{Package}
use Rattle.workspace_check.specs.Verdicts.{Verdicts}
use Rattle.refs_binding.specs.declared.declaration.Declaration.{Declaration}
use Rattle.refs_binding.specs.Binding.{by_scope, by_package, by_member, by_name}
use Rattle.refs_binding.specs.Identifiers.{IsInFiles}
use Rattle.refs_binding.specs.Uses.{IsCheckedPackage, IsBoundToDeclaration}
use Rattle.refs_binding.proofs.Excluding.{number_bound, exported_as}
use Rattle.refs_lookup.proofs.NamedMembers.{name_member}
use Rattle.refs_lookup.proofs.UsedMembers.{link_role}
use Rattle.law_faultless.proofs.Scoped.{in_order}
use Rattle.law_faultless.proofs.TypesBound.{Stands, Kept, all_kept}
use Rattle.go_respelled.specs.Trees.{renamed_file}
use Rattle.law_renamed_workspaces.specs.Renames.{IsPlainRename}
use Rattle.law_renamed_workspaces.proofs.NameEdits.{IsBoundToken}
use Rattle.law_renamed_workspaces.proofs.Replaced.{edits, replaced_or_not, old_spelled, token_bound}

module _ (w : Workspace) (known : Verdicts) (p : Package) (is : IsCheckedPackage w known p) where
  -- the name in a package clause is bound to nothing
  clause_unbound : (u : ℕ) (d : Declaration) → IsInFiles p u → IsBoundToDeclaration w known p u d → p.layout.role u ≡ NotLexical purpose.PackageClause → ⊥
  clause_unbound u d stands (by_scope b) role =
      let n = number_bound p u d b in never_bound p.layout p.names u n.0 purpose.PackageClause role n.1
  clause_unbound u d stands (by_package b) role =
      let e = exported_as (IsCheckedPackage w known) p u d b in
      let same : NotLexical purpose.PackageClause ≡ NotLexical purpose.Selected = sym role ∙ e.1.1.1.behind.selected in
      cc
  clause_unbound u d stands (by_member b) role = elim (link_role w known p.path p is.is_checked u d stands b) [
    | inl key ↦ (let same : NotLexical purpose.PackageClause ≡ NotLexical purpose.Key = sym role ∙ key in let z : ⊥ = cc in z)
    | inr selected ↦ (let same : NotLexical purpose.PackageClause ≡ NotLexical purpose.Selected = sym role ∙ selected in let z : ⊥ = cc in z)
  ]
  clause_unbound u d stands (by_name b) role =
      let same : NotLexical purpose.PackageClause ≡ NotLexical purpose.Member = sym role ∙ name_member w known p.path p is.is_checked u d stands.0 b in
      cc

  clause_of : (K : Site → Type 0) (s : TokenSpellings) (f : SourceFile) → AllByRecursion K (file_sites s f.tree) →
      K (site s f.tree.name (NotLexical purpose.PackageClause))
  unfolding file_sites
  clause_of K s f h = h.0

  clause_stands : (rank : ℕ) (f : SourceFile) → slice_get p.files rank ≡ Some f → Stands p rank f.tree.name (NotLexical purpose.PackageClause)
  clause_stands rank f at =
      clause_of (Kept p rank) (record { rank = rank; spell = spelling_of f }) f (all_kept w known p.path p is.is_checked rank f at) refl

module _ (w : Workspace) (known : Verdicts) (d : Declaration) (name : List ℕ) (s : FileChanges) (h : IsPlainRename w known d name s) (p : Package)
    (is : IsCheckedPackage w known p) (rank : ℕ) (f : SourceFile) (at : slice_get p.files rank ≡ Some f) where
  not_replaced : IsBoundToken w known h.rename.set p rank f.tree.name → ⊥
  not_replaced b =
      let u = clause_stands w known p is rank f at in
      let same : u.0 ≡ b.identifier =
      one_stands p.layout p.size (in_order w known p.path p is.is_checked) (record { file = rank; index = f.tree.name }) u.0 b.identifier u.1.0 b.inside.0
      u.1.1.0 b.stands in
      clause_unbound w known p is b.identifier b.declaration b.inside b.bound (ap p.layout.role (sym same) ∙ u.1.1.1)

  pub clause_kept : spelling_of (renamed_file (edits w known d name s h p is rank f at) f) f.tree.name ≡ spelling_of f f.tree.name
  clause_kept = elim (replaced_or_not w known d name s h p is rank f at f.tree.name) [
    | inl r ↦ absurd (not_replaced (token_bound w known d name s h p is rank f at f.tree.name r))
    | inr none ↦ old_spelled w known d name s h p is rank f at f.tree.name none
  ]
