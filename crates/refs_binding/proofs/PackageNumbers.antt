-- The packages of a workspace without faults.
use Rattle.std.proofs.Common.{ℕ, ◌≡◌, ◌<◌, List, length, ap, sym, subst, refl, ◌∙◌}
use Rattle.std.specs.Prelude.{Some, Contains, slice_get}
use Rattle.std.proofs.lemmas.Option.{same_Some}
use Rattle.base_files.specs.Packages.{package_paths}
use Rattle.base_files.specs.Workspace.{Workspace}
use Rattle.types_info.proofs.MeaningLists.{slice_get_some}
use Rattle.workspace_graph.proofs.ByPath.{at_contains}
use Rattle.types_declared.specs.Package.{Package}
use Rattle.workspace_check.specs.declared.findings.Findings.{Findings}
use Rattle.workspace_check.specs.Verdicts.{Verdicts, IsPackageIn}
use Rattle.workspace_check.specs.KnownFindings.{verdicts_by}
use Rattle.workspace_check.proofs.OneVerdict.{right_below, verdict_by, without_faults}
use Rattle.refs_binding.specs.Uses.{IsCheckedPackage}
use Rattle.refs_binding.specs.Workspaces.{IsFaultless, IsPackageAt, known_in}
use Rattle.refs_binding.proofs.Units.{no_fault_in, one_package}
use Rattle.refs_binding.specs.DeclaringPlaces.{InPackage}

-- each number is that of a checked package
pub package_there : (w : Workspace) (found : Findings) → IsFaultless w found → (n : ℕ) → n < length (package_paths w) → (p : Package) ×
    (IsPackageAt w (known_in found) n p)
package_there w found h n lt =
    let known = verdicts_by found.export_table in
    let x = slice_get_some (package_paths w) n lt in
    let path = x.0 in
    let by = verdict_by w path known (known path) (right_below w known h.findings.right path) (h.findings.right path (at_contains w n path x.1)) in
    let has = by.has_export_data (without_faults w known path (known path) by (no_fault_in w found h n path x.1) (known path).faulty refl) in
    let e : has.checked.path ≡ path = ap (λ (p : Package). p.path) has.is_package.is_package.is_package in (
      has.checked,
      record {
        has_number = x.1 ∙ ap Some (sym e);
        is_package = record {
          of_workspace = subst (Contains (package_paths w)) (sym e) (at_contains w n path x.1);
          is_checked = subst (λ q. IsPackageIn w known q has.checked) (sym e) has.is_package;
        };
      },
    )

-- A property of the package of a number is one of the package of its path.
pub in_package : (w : Workspace) (known : Verdicts) (n : ℕ) (p : Package) (path : List ℕ) (P : Package → Type 0) → IsPackageAt w known n p →
    slice_get (package_paths w) n ≡ Some path → P p → InPackage (IsCheckedPackage w known) path P
in_package w known n p path P is at h = record { inside = p; is_package = is.is_package; of_path = same_Some p.path path (sym is.has_number ∙ at); holds = h }

pub of_package : (w : Workspace) (known : Verdicts) (n : ℕ) (p : Package) (path : List ℕ) (P : Package → Type 0) → IsPackageAt w known n p →
    slice_get (package_paths w) n ≡ Some path → InPackage (IsCheckedPackage w known) path P → P p
of_package w known n p path P is at h =
    let same : h.inside ≡ p = one_package w known h.inside p h.is_package is.is_package (h.of_path ∙ sym (same_Some p.path path (sym is.has_number ∙ at))) in
    subst P same h.holds

-- no package has a path that is that of none
pub no_package : (w : Workspace) (known : Verdicts) (path : List ℕ) (P : Package → Type 0) → (Contains (package_paths w) path → ⊥) →
    InPackage (IsCheckedPackage w known) path P → ⊥
no_package w known path P none h = none (subst (Contains (package_paths w)) h.of_path h.is_package.of_workspace)
