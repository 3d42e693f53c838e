-- The edits of a move in the part: no file of a package with faults comes to a package of the edited part.
use Rattle.std.proofs.Common.{◌≡◌, ◌⊎◌, ℕ, inl, inr, true, List, Some, sym, ap, subst, ◌∙◌}
use Rattle.std.specs.Prelude.{Contains, IsSome}
use Rattle.std.specs.FinMap.{get}
use Rattle.std.proofs.lemmas.Bool.{and_parts, cases_Bool, true≢false}
use Rattle.base_files.specs.Packages.{is_go, package_paths}
use Rattle.base_files.specs.Path.{IsPath, folder}
use Rattle.base_files.specs.Workspace.{Workspace}
use Rattle.base_edits.specs.EditSet.{FileChanges, edited}
use Rattle.base_edits.proofs.Entries.{some_is}
use Rattle.base_edits.proofs.FilesAfter.{gets}
use Rattle.workspace_graph.specs.Packages.{itself}
use Rattle.workspace_graph.proofs.ByPath.{has_file}
use Rattle.workspace_check.specs.Verdicts.{Verdicts, AreVerdicts}
use Rattle.workspace_check.proofs.OneVerdict.{right_below, verdict_by}
use Rattle.workspace_check.proofs.PackageFiles.{package_file}
use Rattle.refactor_move.specs.MoveEdits.{AreMoveEdits, IsFree}
use Rattle.refactor_move.specs.Paths.{IsUnder, HasMovedPackage}
use Rattle.law_moves.proofs.MovedFolders.{file_under, folder_moves, go_moves}
use Rattle.refactor_part.specs.FaultlessPart.{faultless_part, is_of_faulty}
use Rattle.refactor_part.specs.FirstFaults.{HaveNoFault}
use Rattle.refactor_part.proofs.Carried.{none_as}
use Rattle.refactor_part.proofs.PartEdits.{AreApart, has_old}
use Rattle.refactor_part.proofs.PartFiles.{fine_package, kept}
use Rattle.refactor_affected.specs.Starts.{IsAffectedByMove, IsAtOrUnder, moves}
use Rattle.refactor_affected.proofs.MovesApart.{goes}
use Rattle.law_plans.proofs.EditedPart.{NoneComes, file_is, is_file, go_file, goes_on, part_apart, was_before}
use Rattle.law_plans.proofs.SoundAfter.{EachGoes}

-- what moves lies at the folder or in it
pub old_at : (from to old new : List ℕ) → HasMovedPackage from to old new → IsAtOrUnder from old
old_at from to old new (inl own) = inl own.0
old_at from to old new (inr moved) = inr (moved.rest, moved.was)

pub new_at : (from to old new : List ℕ) → HasMovedPackage from to old new → (new ≡ to) ⊎ IsUnder to new
new_at from to old new (inl own) = inl own.1
new_at from to old new (inr moved) = inr (moved.rest, moved.is)

module _ (w : Workspace) (known : Verdicts) (right : AreVerdicts w known) (from to : List ℕ) (target : IsPath 1 to) (free : IsFree w to)
    (sound : HaveNoFault w (IsAffectedByMove w from to)) (by : Verdicts) (s : FileChanges) (are : AreMoveEdits (faultless_part w known) by from to to s)
    (apart : AreApart s w) where
  abbrev part : Workspace
  part = faultless_part w known

  -- no package at or under the folder that moves has a fault
  pub none_moves : (q : List ℕ) → Contains (package_paths w) q → IsAtOrUnder from q → (known q).faulty ≡ true → ⊥
  none_moves q has at faulty =
      let asked = none_as w (IsAffectedByMove w from to) known right sound in
      let f = (verdict_by w q known (known q) (right_below w known right q) (right q has)).has_faults.0 faulty in
      asked.none f.0 (record { path = q; is_package = has; among = record { start = q; begins = moves at; in_closure = itself has }; is_fault = f.1 })

  -- a package of the edited part at which a file of a package with faults stays
  none_stays : (q path : List ℕ) → Contains (package_paths (edited s part)) q → folder path ≡ q → (known q).faulty ≡ true → IsSome (get w path) → ⊥
  none_stays q path has at faulty there =
      let c = package_file (edited s part) q has in
      let e = c.0 in
      let file = file_is (edited s part) q e c.1 in
      let o = was_before part s are.none_added e.0 e.1 file.has in
      elim (goes are.moved s are.only o.0 e.0 (gets s part e.0 e.1 o).1) [
        | inl moved ↦ (
            let into = new_at are.moved.from are.moved.to (folder o.0) (folder e.0) (folder_moves are.moved.from are.moved.to o.0 e.0 moved.moved) in
            let here : (folder path ≡ to) ⊎ IsUnder to (folder path) = elim into [
              | inl e1 ↦ inl (at ∙ sym file.in_folder ∙ e1 ∙ are.is_move.target)
              | inr u ↦ inr (subst (λ t. IsUnder t (folder path)) are.is_move.target (subst (IsUnder are.moved.to) (file.in_folder ∙ sym at) u))
            ] in
            free path there (file_under to path target here))
        | inr stays ↦ (
            let own = is_file part q (e.0, o.1) (record {
              go = file.go;
              in_folder = file.in_folder;
              has = subst (λ p. get part p ≡ Some o.1) (sym stays) o.2;
            }) in
            true≢false (sym faulty ∙ fine_package w known q (e.0, o.1) own))
      ]

  pub none_comes_moving : NoneComes w known s are.none_added apart
  none_comes_moving q has e c =
      let file = file_is (edited s w) q e c in
      let o = was_before w s are.none_added e.0 e.1 file.has in
      elim (cases_Bool (is_of_faulty known o.0)) [
        | inr fine ↦ is_file (edited s part) q e (record {
          go = file.go;
          in_folder = file.in_folder;
          has = has_old s part are.none_added (part_apart w known s are.none_added apart) e.0 e.1 (o.0, o.1, kept w known o.0 fine ∙ o.2, o.3);
        })
        | inl faulty ↦ (
            let parts = and_parts (is_go o.0) (known (folder o.0)).faulty faulty in
            let is_package = has_file w (folder o.0) (o.0, o.1) (go_file w o.0 o.1 o.2 parts.0) in
            elim (goes are.moved s are.only o.0 e.0 (gets s w e.0 e.1 o).1) [
              | inl moved ↦ (
                  let under = old_at are.moved.from are.moved.to (folder o.0) (folder e.0) (folder_moves are.moved.from are.moved.to o.0 e.0 moved.moved) in
                  absurd (none_moves (folder o.0) is_package (subst (λ f. IsAtOrUnder f (folder o.0)) are.is_move.source under) parts.1))
              | inr stays ↦ (
                  let at : folder o.0 ≡ q = ap folder (sym stays) ∙ file.in_folder in
                  absurd (none_stays q o.0 has at (sym (ap (λ p. (known p).faulty) at) ∙ parts.1) (some_is (get w o.0) o.1 o.2)))
            ])
      ]

  pub each_goes_moving : (back : NoneComes w known s are.none_added apart) → EachGoes w known right s are.none_added apart back
  each_goes_moving back q e c offset =
      let file = file_is part q e c in
      elim (are.paths e.0 (some_is (get part e.0) e.1 file.has)) [
        | inl moved ↦ goes_on w known s are.none_added apart q e c moved.0 moved.1.1 (go_moves are.moved.from are.moved.to e.0 moved.0 moved.1.0.moved ∙
            file.go) offset
        | inr stays ↦ goes_on w known s are.none_added apart q e c e.0 stays.1 file.go offset
      ]
