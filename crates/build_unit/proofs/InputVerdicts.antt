-- Verdicts on packages of a workspace, some of which are packages of inputs too, with equal closures. The units and verdicts that a build
-- makes in inputs.
use Rattle.std.proofs.Common.{◌≡◌, List, ℕ, [], ◌∷◌, ◌++◌, inl, inr, subst}
use Rattle.std.specs.Prelude.{Contains}
use Rattle.std.proofs.lemmas.List.Elements.{Contains-push_cases}
use Rattle.base_lemmas.proofs.Elements.{nothing_in}
use Rattle.base_files.specs.Packages.{package_paths}
use Rattle.base_files.specs.Workspace.{Workspace}
use Rattle.workspace_check.specs.Found.{AreVerdictsOf}
use Rattle.workspace_check.specs.KnownFindings.{IsKnownVerdict}
use Rattle.workspace_check.specs.declared.known.KnownVerdict.{KnownVerdict}
use Rattle.workspace_check.proofs.Local.{own_there, same_back, told_there}
use Rattle.build_unit.specs.Inputs.{HasClosuresOf}
use Rattle.build_unit.specs.declared.unit.Unit.{Unit as PackageUnit}
use Rattle.build_unit.specs.Units.{IsUnitIn}
use Rattle.build_unit.proofs.Locality.{local_unit}

module _ (w x : Workspace) (closures : HasClosuresOf w x) where
  -- a package of the inputs is one of the workspace
  whole_has : (p : List ℕ) → Contains (package_paths x) p → Contains (package_paths w) p
  whole_has p has = own_there x w p (same_back w x p (closures p has)) has

  -- its unit there is its unit here
  pub unit_here : (p : List ℕ) (unit : PackageUnit) → IsUnitIn w p unit → IsUnitIn x p unit
  unit_here p unit is has = local_unit w x p unit (whole_has p has) (closures p has) (is (whole_has p has))

  -- one verdict more
  pub more_own : (own : List KnownVerdict) (one : KnownVerdict) → IsKnownVerdict w one.finding.path one → Contains (package_paths x) one.finding.path →
      AreVerdictsOf x own → AreVerdictsOf x (own ++ one ∷ [])
  more_own own one told here are other has = elim (Contains-push_cases own one other has) [
    | inl before ↦ are other before
    | inr is ↦ subst (λ (z : KnownVerdict). Contains (package_paths x) z.finding.path × IsKnownVerdict x z.finding.path z) is (
      here,
      told_there w x one.finding.path one (whole_has one.finding.path here) (closures one.finding.path here) told,
    )
  ]

-- no verdict
pub none_own : (x : Workspace) (own : List KnownVerdict) → own ≡ [] → AreVerdictsOf x own
none_own x own none one has = absurd (nothing_in one (subst (λ l. Contains l one) none has))
