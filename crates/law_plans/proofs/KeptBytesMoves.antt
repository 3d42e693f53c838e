-- The bytes of a file that a move leaves.
use Rattle.std.proofs.Common.{◌≡◌, ℕ, inl, inr, List, Some, refl, sym, ap, subst, ◌∙◌}
use Rattle.std.specs.FinMap.{get}
use Rattle.std.specs.Prelude.{Option}
use Rattle.std.proofs.lemmas.Bool.{cases_Bool}
use Rattle.base_files.specs.Packages.{is_go}
use Rattle.base_files.specs.Workspace.{Workspace}
use Rattle.workspace_check.specs.Verdicts.{Verdicts}
use Rattle.base_edits.specs.Edits.{AreInOrder}
use Rattle.base_edits.specs.EditSet.{change_of}
use Rattle.base_edits.specs.Fits.{path_after}
use Rattle.base_edits.specs.Moved.{edits_by}
use Rattle.base_edits.specs.declared.edit.Edit.{Edit}
use Rattle.base_edits.proofs.Entries.{some_is}
use Rattle.workspace_snapshot.specs.declared.change.Change.{Change}
use Rattle.refactor_move.specs.declared.moved.Moved.{Moved}
use Rattle.refactor_move.specs.Paths.{IsUnder, HasMoved}
use Rattle.refactor_move.specs.Changes.{AreMoveEditsOf, IsPathAfter}
use Rattle.refactor_move.specs.MoveEdits.{IsMoveOf}
use Rattle.law_plans.specs.MovedBytes.{IsPathAfterMove, MovesKeepOtherBytes}
use Rattle.law_plans.proofs.FilesKept.{file_there, bytes_stay}

-- the edits of a file are in order
in_order : (w : Workspace) (known : Verdicts) (m : Moved) (path : List ℕ) (edits : List Edit) → AreMoveEditsOf w known m path edits → AreInOrder 0 edits
in_order w known m path edits are = elim (cases_Bool (is_go path)) [
  | inl go ↦ (are.go go).are.end_by.in_order
  | inr other ↦ subst (AreInOrder 0) (sym (are.other other)) tt
]

-- the path of a file after the move
record HasPath (from to file : List ℕ) (s_path : Option (List ℕ)) : Type 0 where
  after : List ℕ
  is_after : IsPathAfterMove from to file after
  goes : s_path ≡ Some after

path_of : (w : Workspace) (known : Verdicts) (from to called : List ℕ) (m : Moved) → IsMoveOf w known from to called m → (file : List ℕ)
    (after : Option (List ℕ)) → IsPathAfter m file after → HasPath from to file after
path_of w known from to called m move file after (inl h) = record {
  after = h.0;
  is_after = inl (subst (λ x. HasMoved x to file h.0) move.source (subst (λ x. HasMoved m.from x file h.0) move.target h.1.0.moved));
  goes = h.1.1;
}
path_of w known from to called m move file after (inr h) =
    record { after = file; is_after = inr ((λ u. h.0 (subst (λ x. IsUnder x file) (sym move.source) u)), refl); goes = h.1 }

pub moves_keep : MovesKeepOtherBytes
moves_keep snapshot from to change planned file text is start end some within kept =
    let moved = planned.1 in
    let known = moved.moving.known in
    let edits = moved.moving.edits in
    let there = some_is (get snapshot.files file) text is in
    let path = path_of snapshot.files known from to to edits.moved edits.is_move file (path_after change.edits file) (edits.paths file there) in
    let order = in_order snapshot.files known edits.moved file (edits_by (change_of change.edits file)) (edits.edits file there) in
    record {
      after = path.after;
      is_after = path.is_after;
      new = _;
      there = ap (λ (c : Change). get c.files path.after) moved.is_change
          ∙ file_there snapshot.files change.edits moved.fit_files file text is path.after path.goes;
      kept = bytes_stay snapshot.files change.edits moved.fit_files file text is order start end some within kept;
    }
