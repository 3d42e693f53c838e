-- A package has one verdict at most.
use Rattle.std.proofs.Common.{ℕ, ◌≡◌, Bool, true, false, List, sym, subst, ◌∙◌}
use Rattle.base_files.specs.Workspace.{Workspace}
use Rattle.types_declared.specs.Package.{Package, ExportData}
use Rattle.types_check.specs.Exports.{IsExportData}
use Rattle.types_info.proofs.OneWorld.{same_tests}
use Rattle.workspace_check.specs.declared.fault.FileFault.{FileFault}
use Rattle.workspace_check.specs.Verdicts.{Verdict, Verdicts, IsPackageIn, IsFaultBy, HasExportData}
use Rattle.workspace_check.specs.Verdicts.{IsVerdictBy, IsVerdict, follows, AreVerdictsBelow, AreVerdicts}
use Rattle.workspace_check.specs.Laws.{IsSameVerdict}
use Rattle.workspace_check.proofs.Alike.{KnowsAlike, package_as, verdict_as}
use Rattle.workspace_check.proofs.Closed.{to_package}
use Rattle.workspace_check.proofs.OnePackage.{one_checked, layout_formed, files_in_order, one_export_data}

same_export_data : (w : Workspace) (known : Verdicts) (p : List ℕ) (i j : ExportData) → HasExportData w known p i → HasExportData w known p j → i ≡ j
same_export_data w known p i j a b =
    let same : b.checked ≡ a.checked = one_checked w known p b.checked a.checked b.is_package a.is_package in
    one_export_data a.checked (layout_formed w known p a.checked a.is_package) (files_in_order w known p a.checked a.is_package) i j a.is_export_data
    (subst (λ c. IsExportData c j) same b.is_export_data)

same_by : (w : Workspace) (known : Verdicts) (p : List ℕ) (v u : Verdict) → IsVerdictBy w known p v → IsVerdictBy w known p u → IsSameVerdict v u
same_by w known p v u a b =
    let tests : v.faulty ≡ u.faulty = same_tests v.faulty u.faulty (λ e. b.has_faults.1 (a.has_faults.0 e)) (λ e. a.has_faults.1 (b.has_faults.0 e)) in
    record {
      faulty = tests;
      export_data = λ e. same_export_data w known p v.export_data u.export_data (a.has_export_data e) (b.has_export_data (sym tests ∙
          e));
    }

pub one_verdict : (w : Workspace) (p : List ℕ) (v u : Verdict) → IsVerdict w p v → IsVerdict w p u → IsSameVerdict v u
one_verdict w p v u (follows a below by) (follows b under so) =
    let same : KnowsAlike w p a b = λ q on. one_verdict w q (a q) (b q) (below q on) (under q on) in
    same_by w b p v u (verdict_as w p a b same v by) so

-- what is right of the packages that p builds on is known alike
pub right_alike : (w : Workspace) (p : List ℕ) (a b : Verdicts) → AreVerdictsBelow w p a → AreVerdictsBelow w p b → KnowsAlike w p a b
right_alike w p a b right also = λ q on. one_verdict w q (a q) (b q) (right q on) (also q on)

pub right_below : (w : Workspace) (known : Verdicts) → AreVerdicts w known → (p : List ℕ) → AreVerdictsBelow w p known
right_below w known right p = λ q on. right q (to_package w p q on.imported)

-- the verdict on p follows from what is right of those
pub verdict_by : (w : Workspace) (p : List ℕ) (known : Verdicts) (v : Verdict) → AreVerdictsBelow w p known → IsVerdict w p v → IsVerdictBy w known p v
verdict_by w p known v right (follows a below by) = verdict_as w p a known (right_alike w p a known below right) v by

pub checked_as_one : (w : Workspace) (p : List ℕ) (a b : Verdicts) → AreVerdictsBelow w p a → AreVerdictsBelow w p b → (x y : Package) →
    IsPackageIn w a p x → IsPackageIn w b p y → x ≡ y
checked_as_one w p a b right also x y h k = one_checked w b p x y (package_as w p a b (right_alike w p a b right also) x h) k

-- one of which no fault is one is not faulty
pub without_faults : (w : Workspace) (known : Verdicts) (p : List ℕ) (v : Verdict) → IsVerdictBy w known p v → ((f : FileFault) → IsFaultBy w known p f → ⊥) →
    (b : Bool) → v.faulty ≡ b → v.faulty ≡ false
without_faults w known p v by sound true e = let f = by.has_faults.0 e in absurd (sound f.0 f.1)
without_faults w known p v by sound false e = e
