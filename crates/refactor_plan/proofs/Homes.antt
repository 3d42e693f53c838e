-- The package of a declaration that an identifier at a byte is bound to.
use Rattle.std.proofs.Common.{ℕ, ◌≡◌, inl, List, sym, subst, refl, ◌∙◌}
use Rattle.std.specs.Prelude.{Some, Contains, slice_get}
use Rattle.std.proofs.lemmas.Option.{none-some, same_Some}
use Rattle.base_files.specs.Packages.{package_paths}
use Rattle.base_files.specs.Workspace.{Workspace}
use Rattle.types_declared.specs.Package.{Package}
use Rattle.workspace_check.specs.Verdicts.{Verdicts, AreVerdicts}
use Rattle.refs_binding.specs.declared.declaration.Declaration.{Declaration}
use Rattle.refs_binding.specs.declared.declaration.Declaration.TheVariants.{Predeclared, Declared, Field, Method}
use Rattle.refs_binding.specs.declared.indexed.Numbered.{Numbered}
use Rattle.refs_binding.specs.DeclaringPlaces.{HasDeclarationAt, InHomePackage}
use Rattle.refs_binding.specs.Identifiers.{named_by}
use Rattle.refs_binding.specs.Uses.{IsCheckedPackage, HasDeclaration}
use Rattle.refs_binding.specs.WorkspaceFindings.{WorkspaceFindings}
use Rattle.refs_binding.specs.Workspaces.{home_path, known_in}
use Rattle.refs_lookup.specs.Within.{IsDeclaredWithin, predeclared, stands}
use Rattle.refs_lookup.proofs.Standing.{bound_within}
use Rattle.refs_places.specs.Outside.{declaring_path}
use Rattle.base_edits.specs.EditSet.{FileChanges}
use Rattle.refactor_rename.specs.Naming.{IsFixed}
use Rattle.refactor_rename.specs.RenameEdits.{AreRenameEdits}
use Rattle.refactor_rename.specs.declared.renaming.Renaming.{Renaming}
use Rattle.refactor_coupled.specs.CoupledEdits.{AreCoupledEdits}
use Rattle.refactor_coupled.specs.Coupling.{IsRenamedSet}
use Rattle.refactor_plan.specs.Proposals.{proposed_verdicts}
use Rattle.refactor_plan.specs.declared.proposal.Proposal.{Proposal}
use Rattle.refactor_plan.specs.declared.bindings.PackageBindings.{PackageBindings}
use Rattle.refactor_plan.specs.Bindings.{IsRead, IsReadFor, IsOfRead, IsSetIn}

-- two names of one path
pub same_home : (d : Declaration) → home_path d ≡ declaring_path d
same_home (Predeclared n) = refl
same_home (Declared path n) = refl
same_home (Field s) = refl
same_home (Method s) = refl

-- a declaration of the package of the number that was read
pub home_read : (at : Numbered) (read : PackageBindings) → read.at ≡ at → IsRead read → (d : Declaration) →
    slice_get (package_paths at.workspace.now.graph) at.number ≡ home_path d → IsOfRead read d
home_read at read same is d home =
    sym (same_home d) ∙ sym (subst (λ (x : Numbered). slice_get (package_paths x.workspace.now.graph) x.number ≡ home_path d) (sym same) home)
    ∙ is.unit.has_number

-- what is renamed in the workspace that was read is so in that of the proposal
pub proposed_set : (p : Proposal) (read : PackageBindings) → IsReadFor p read → (r : Renaming) → IsSetIn read r →
    IsRenamedSet (IsCheckedPackage p.workspace.now.graph (proposed_verdicts p)) r.declaration.now r.set.now
proposed_set p read is r h =
    subst (λ (v : WorkspaceFindings). IsRenamedSet (IsCheckedPackage v.graph (known_in v.findings)) r.declaration.now r.set.now) is.same h

pub coupled_edits : (p : Proposal) (read : PackageBindings) → IsReadFor p read → (r : Renaming) → IsSetIn read r → (s : FileChanges) →
    AreRenameEdits p.workspace.now.graph (proposed_verdicts p) r.declaration.now r.set.now r.name.now s →
    AreCoupledEdits p.workspace.now.graph (proposed_verdicts p) r.declaration.now r.set.now r.name.now s
coupled_edits p read is r h s edits = record { is_set = proposed_set p read is r h; edits = edits }

-- The workspace has the package of a declaration that is not predeclared.
module _ (w : Workspace) (known : Verdicts) (right : AreVerdicts w known) where
  there : (d : Declaration) (P : Package → Type 0) → InHomePackage (IsCheckedPackage w known) d P → (path : List ℕ) → home_path d ≡ Some path →
      Contains (package_paths w) path
  there (Predeclared n) P h path e = absurd h
  there (Declared q n) P h path e = subst (Contains (package_paths w)) (h.of_path ∙ same_Some q path e) h.is_package.of_workspace
  there (Field s) P h path e = subst (Contains (package_paths w)) (h.of_path ∙ same_Some s.package path e) h.is_package.of_workspace
  there (Method s) P h path e = subst (Contains (package_paths w)) (h.of_path ∙ same_Some s.package path e) h.is_package.of_workspace

  within_there : (p : List ℕ) (d : Declaration) → IsDeclaredWithin w known p d → (path : List ℕ) → home_path d ≡ Some path → Contains (package_paths w) path
  within_there p _ (predeclared lt) path e = absurd (none-some path e)
  within_there p d (stands place h) path e = there d (λ q. HasDeclarationAt q d place) h.declared path e

  home_there : (at : List ℕ) (offset : ℕ) (d : Declaration) → HasDeclaration w known at offset d → (path : List ℕ) → home_path d ≡ Some path →
      Contains (package_paths w) path
  home_there at offset d has path e =
      let p = has.asked_in in
      within_there p.path d (bound_within w known right p has.is_asked.is_package (named_by p.layout has.number) d has.bound) path e

  pub fixed_without_home : (at : List ℕ) (offset : ℕ) (d : Declaration) → HasDeclaration w known at offset d →
      ((q : List ℕ) → home_path d ≡ Some q → Contains (package_paths w) q → ⊥) → IsFixed (IsCheckedPackage w known) d
  fixed_without_home at offset (Predeclared n) has none = inl tt
  fixed_without_home at offset (Declared q n) has none = absurd (none q refl (home_there at offset (Declared q n) has q refl))
  fixed_without_home at offset (Field s) has none = absurd (none s.package refl (home_there at offset (Field s) has s.package refl))
  fixed_without_home at offset (Method s) has none = absurd (none s.package refl (home_there at offset (Method s) has s.package refl))
