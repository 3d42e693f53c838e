-- The edited workspace has right verdicts: of packages of the edited part those that it has there, of others those that they had.
use Rattle.std.proofs.Common.{◌≡◌, ◌⊎◌, ℕ, inl, inr, true, List, [], sym, ap, subst, ◌∙◌}
use Rattle.std.specs.Prelude.{Contains}
use Rattle.std.proofs.lemmas.Bool.{and_parts, cases_Bool}
use Rattle.base_files.specs.Path.{folder}
use Rattle.base_files.specs.Packages.{is_go, package_paths}
use Rattle.base_files.specs.Workspace.{Workspace}
use Rattle.base_edits.specs.EditSet.{FileChanges, edited}
use Rattle.base_edits.specs.Fits.{Fits}
use Rattle.base_edits.specs.RevisionsOfEdits.{revision_of}
use Rattle.base_edits.proofs.FilesAfter.{gets}
use Rattle.workspace_graph.proofs.ByPath.{has_file}
use Rattle.workspace_check.specs.Closures.{HasSameClosure}
use Rattle.workspace_check.specs.Verdicts.{Verdict, Verdicts, AreVerdicts, IsVerdict}
use Rattle.workspace_check.proofs.Local.{local_verdict}
use Rattle.workspace_check.proofs.Members.{cases_contains}
use Rattle.workspace_check.proofs.PackageFiles.{package_file}
use Rattle.refactor_preserve.specs.Preserved.{Preserves}
use Rattle.refactor_part.specs.FaultlessPart.{faultless_part, is_of_faulty}
use Rattle.refactor_part.proofs.PartChanges.{faulty_stays}
use Rattle.refactor_part.proofs.PartEdits.{AreApart, has_old}
use Rattle.refactor_part.proofs.PartFiles.{kept}
use Rattle.law_plans.proofs.EditedPart.{NoneComes, file_is, is_file, go_file, kept_closure, part_apart, was_before}

-- the verdict on a package of some, or else another one
abbrev pub verdict_among : {P : Type 0} → P ⊎ (P → ⊥) → (own other : Verdict) → Verdict
verdict_among (inl has) own other = own
verdict_among (inr not) own other = other

module _ (w : Workspace) (known : Verdicts) (right : AreVerdicts w known) (s : FileChanges) (none : s.added ≡ []) (apart : AreApart s w)
    (back : NoneComes w known s none apart) (h : Preserves (faultless_part w known) (revision_of (faultless_part w known) s)) where
  abbrev part : Workspace
  part = faultless_part w known

  abbrev x : Workspace
  x = edited s part

  abbrev y : Workspace
  y = edited s w

  -- each package with faults keeps its closure
  abbrev pub FaultyKeep : Type 0
  FaultyKeep = (p : List ℕ) → Contains (package_paths w) p → (known p).faulty ≡ true → HasSameClosure w y p

  abbrev pub verdicts_there : Verdicts
  verdicts_there p = verdict_among (cases_contains (package_paths x) p) (h.after p) (known p)

  module _ (fits : Fits s part) (keep : FaultyKeep) where
    -- a package that is not in the edited part had faults
    had_faults : (p : List ℕ) → Contains (package_paths y) p → (Contains (package_paths x) p → ⊥) → Contains (package_paths w) p × ((known p).faulty ≡ true)
    had_faults p has not =
        let c = package_file y p has in
        let e = c.0 in
        let file = file_is y p e c.1 in
        let o = was_before w s none e.0 e.1 file.has in
        elim (cases_Bool (is_of_faulty known o.0)) [
          | inr fine ↦ absurd (not (has_file x p e (is_file x p e (record {
            go = file.go;
            in_folder = file.in_folder;
            has = has_old s part none (part_apart w known s none apart) e.0 e.1 (o.0, o.1, kept w known o.0 fine ∙ o.2, o.3);
          }))))
          | inl faulty ↦ (
              let at : folder o.0 ≡ p = ap folder (faulty_stays w known s none apart fits o.0 e.0 faulty (gets s w e.0 e.1 o).1) ∙ file.in_folder in
              let parts = and_parts (is_go o.0) (known (folder o.0)).faulty faulty in (
                subst (Contains (package_paths w)) at (has_file w (folder o.0) (o.0, o.1) (go_file w o.0 o.1 o.2 parts.0)),
                sym (ap (λ q. (known q).faulty) at) ∙ parts.1,
              ))
        ]

    right_by : (p : List ℕ) → Contains (package_paths y) p → (d : Contains (package_paths x) p ⊎ (Contains (package_paths x) p → ⊥)) →
        IsVerdict y p (verdict_among d (h.after p) (known p))
    right_by p there (inl has) =
        local_verdict x y p (h.after p) has (kept_closure w known s none apart back h.after h.right_after h.sound p has) (h.right_after p has)
    right_by p there (inr not) =
        let was = had_faults p there not in
        local_verdict w y p (known p) was.0 (keep p was.0 was.1) (right p was.0)

    pub verdicts_are_right : AreVerdicts y verdicts_there
    verdicts_are_right p there = right_by p there (cases_contains (package_paths x) p)
