-- Affected packages without faults have none after the change. Packages that keep their closures keep their units.
use Rattle.std.proofs.Common.{◌≡◌, ℕ, inl, inr, true, List, sym, ◌∙◌}
use Rattle.std.specs.Prelude.{Contains}
use Rattle.std.proofs.lemmas.Bool.{cases_Bool, true≢false}
use Rattle.base_edits.specs.Revisions.{Revision}
use Rattle.base_files.specs.Packages.{package_paths}
use Rattle.base_files.specs.Workspace.{Workspace}
use Rattle.build_unit.proofs.Locality.{local_unit}
use Rattle.workspace_check.specs.Closures.{HasSameClosure}
use Rattle.workspace_check.specs.Verdicts.{Verdicts, AreVerdicts}
use Rattle.workspace_check.proofs.Local.{own_there, same_back}
use Rattle.workspace_check.proofs.OneVerdict.{right_below, verdict_by}
use Rattle.refactor_part.specs.FirstFaults.{HaveNoFault}
use Rattle.refactor_part.proofs.Carried.{none_as}
use Rattle.law_plans.specs.SoundPackages.{AreSoundAfter, IsSoundPackage, LeavesOthers, PreservesSound}

module _ (w : Workspace) (P : List ℕ → Type 0) where
  -- a package among those of which none has a fault
  pub sound_among : HaveNoFault w P → (known : Verdicts) → AreVerdicts w known → (q : List ℕ) → Contains (package_paths w) q → P q → IsSoundPackage w known q
  sound_among sound known right q has among = elim (cases_Bool (known q).faulty) [
    | inr fine ↦ record { is_package = has; sound = fine }
    | inl faulty ↦ (
        let asked = none_as w P known right sound in
        let f = (verdict_by w q known (known q) (right_below w known right q) (right q has)).has_faults.0 faulty in
        absurd (asked.none f.0 (record { path = q; is_package = has; among = among; is_fault = f.1 })))
  ]

  pub affected_stay_sound : (r : Revision) → HaveNoFault w P → PreservesSound w r → AreSoundAfter w r P
  affected_stay_sound r sound h = record {
    after = h.after;
    right_after = h.right_after;
    sound = λ known right path to has among goes. h.sound known right path to (sound_among sound h.before h.right path has among) goes;
  }

  -- so a package with faults is not among them
  pub faulty_apart : HaveNoFault w P → (known : Verdicts) → AreVerdicts w known → (q : List ℕ) → Contains (package_paths w) q → (known q).faulty ≡ true →
      P q → ⊥
  faulty_apart sound known right q has faulty among = true≢false (sym faulty ∙ (sound_among sound known right q has among).sound)

  pub leaves_others : (after : Workspace) → ((path : List ℕ) → Contains (package_paths w) path → (P path → ⊥) → HasSameClosure w after path) →
      LeavesOthers w after P
  leaves_others after same = record {
    closures = same;
    units = λ path has not unit. (
        let closed = same path has not in
        (local_unit w after path unit has closed, local_unit after w path unit (own_there w after path closed has) (same_back w after path closed)));
  }
