-- What is declared, and where, after the insertion; and where what is used is declared.
use Rattle.std.proofs.Common.{ℕ, ◌≡◌, List, [], refl, sym, ◌∙◌}
use Rattle.base_files.specs.Workspace.{Workspace}
use Rattle.base_files.specs.declared.place.Place.{Place}
use Rattle.go_scope.specs.declared.model.Block.TheVariants.{Universe}
use Rattle.go_scope.specs.declared.model.Block.TheVariants.{Package as PackageBlock}
use Rattle.go_scope.specs.Bindings.{Counts, IsPackageLevel}
use Rattle.types_declared.specs.Laid.{literal_of}
use Rattle.types_declared.specs.Package.{Package}
use Rattle.workspace_check.specs.FaultLists.{ListsFaults}
use Rattle.workspace_check.specs.Verdicts.{Verdicts}
use Rattle.refs_binding.specs.declared.declaration.Declaration.{Declaration}
use Rattle.refs_binding.specs.declared.declaration.Declaration.TheVariants.{Declared, Field, Method, Predeclared}
use Rattle.refs_binding.specs.Binding.{Binds, BindsByScope, BindsQualified, IsPredeclaredNumber, by_member, by_name, by_package, by_scope}
use Rattle.refs_binding.specs.DeclaringPlaces.{IsDeclaredAt}
use Rattle.refs_binding.specs.Identifiers.{BeginsAt}
use Rattle.refs_binding.specs.Uses.{IsCheckedPackage, IsUseOf}
use Rattle.law_renamed_workspaces.proofs.OwnNames.{counted, in_universe}
use Rattle.law_renamed_workspaces.proofs.MovedTokens.{have_places}
use Rattle.law_agreement.proofs.MembersBound.{declared_here}
use Rattle.law_agreement.proofs.UsedMembers.{used_declared}
use Rattle.law_renumbered.specs.RenumberedWorkspace.{HasDeclaringPlace}

not_universal : PackageBlock ≡ Universe → ⊥
not_universal e = cc

-- what is used is declared somewhere

module _ (w : Workspace) (sound : ListsFaults w []) where
  abbrev pub known : Verdicts
  known = sound.known

  abbrev pub Known : Package → Type 0
  Known = IsCheckedPackage w known

  scope_place : (p : Package) → Known p → (path : List ℕ) (k : ℕ) → path ≡ p.path → (IsPredeclaredNumber k → ⊥) → Counts p.layout p.names k →
      HasDeclaringPlace w known (Declared path k)
  scope_place p is path k same other counts =
      let x = have_places w known p is k counts other in (
        x.0,
        record {
          inside = p;
          is_package = is;
          of_path = sym same;
          holds = record { at = p.layout.place (literal_of p.layout k); is_at = record { own = other; counts = counts; stands = refl }; begins = x.1 };
        },
      )

  level_own : (p : Package) → Known p → (k : ℕ) → IsPackageLevel p.layout k → IsPredeclaredNumber k → ⊥
  level_own p is k level universal = not_universal (sym level ∙ in_universe w known p.path p is.is_checked k universal)

  by_scopes : (p : Package) → Known p → (u : ℕ) (d : Declaration) → BindsByScope p u d → HasDeclaringPlace w known d
  by_scopes p is u (Predeclared k) b = tt
  by_scopes p is u (Declared path k) b = scope_place p is path k b.0 b.1 (counted p.layout p.names u k b.2)
  by_scopes p is u (Field s) b = absurd b
  by_scopes p is u (Method s) b = absurd b

  by_packages : (p : Package) (u : ℕ) (d : Declaration) → BindsQualified Known p u d → HasDeclaringPlace w known d
  by_packages p u (Predeclared k) b = absurd b
  by_packages p u (Declared path k) b =
      scope_place b.other b.is_package path k (sym b.of_path) (level_own b.other b.is_package k b.seen.package_level) b.seen.counts
  by_packages p u (Field s) b = absurd b
  by_packages p u (Method s) b = absurd b

  placed : (d : Declaration) (place : Place) → IsDeclaredAt Known d place → HasDeclaringPlace w known d
  placed (Predeclared k) place h = tt
  placed (Declared path k) place h = (place, h)
  placed (Field s) place h = (place, h)
  placed (Method s) place h = (place, h)

  used_place : (p : Package) → Known p → (u : ℕ) (place : Place) → BeginsAt p place.path place.offset u → (d : Declaration) → Binds Known p u d →
      HasDeclaringPlace w known d
  used_place p is u place begins d (by_scope b) = by_scopes p is u d b
  used_place p is u place begins d (by_package b) = by_packages p u d b
  used_place p is u place begins d (by_member b) =
      let o = used_declared w sound known sound.right p is u d b in
      placed d o.place (declared_here w known o.inside o.is_package o.user o.place o.begins d o.declares)
  used_place p is u place begins d (by_name b) = placed d place (declared_here w known p is u place begins d b)

  pub places : (place : Place) (d : Declaration) → IsUseOf w known d place → HasDeclaringPlace w known d
  places place d used = used_place used.used_in used.is_package used.user place used.begins d used.bound
