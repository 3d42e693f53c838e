-- No two files come to one path where a package of the part moves to a free folder of the whole workspace.
use Rattle.std.proofs.Common.{◌≡◌, ◌⊎◌, ℕ, inl, inr, List, ◌∷◌, ◌++◌, None, Some, refl, sym, ap, subst, ◌∙◌}
use Rattle.std.specs.Prelude.{Contains}
use Rattle.std.proofs.lemmas.List.{append_cancel_left}
use Rattle.std.proofs.lemmas.Option.{same_Some}
use Rattle.base_files.specs.Workspace.{Workspace}
use Rattle.base_edits.specs.EditSet.{FileChanges, path_by, change_of}
use Rattle.base_edits.specs.Fits.{path_after, path_by_change}
use Rattle.base_edits.specs.declared.change.FileChange.{FileChange}
use Rattle.base_edits.proofs.Changes.{change_found}
use Rattle.workspace_check.specs.Verdicts.{Verdicts}
use Rattle.refactor_move.specs.declared.moved.Moved.{Moved}
use Rattle.refactor_move.specs.Changes.{MovesOrEdits}
use Rattle.refactor_move.specs.MoveEdits.{AreMoveEdits, IsFree}
use Rattle.refactor_move.specs.Paths.{HasMoved, HasMovedFile}
use Rattle.refactor_part.proofs.PartEdits.{AreApart}

module _ (m : Moved) (s : FileChanges) (only : (c : FileChange) → Contains s.changed c → MovesOrEdits m c) where
  pub goes : (old new : List ℕ) → path_after s old ≡ Some new → HasMovedFile m.from m.to old new ⊎ (new ≡ old)
  goes old new is = elim (change_of s old) as (λ o. change_of s old ≡ o → path_by_change o old ≡ Some new → HasMovedFile m.from m.to old new ⊎ (new ≡ old)) [
    | None ↦ λ e k. inr (sym (same_Some old new k))
    | Some c ↦ λ e k.
        let own = change_found s.changed old c e in
        elim (only c own.0) [
          | inl moved ↦ (
              let to : moved.0 ≡ new = same_Some moved.0 new (sym (ap (λ f. path_by f old) moved.1.1) ∙ k) in
              inl (subst (λ q. HasMovedFile m.from m.to old q) to (subst (λ p. HasMovedFile m.from m.to p moved.0) own.1 moved.1.0)))
          | inr stays ↦ inr (sym (same_Some old new (sym (ap (λ f. path_by f old) stays.1.0) ∙ k)))
        ]
  ] refl is

  same_old : (one other path : List ℕ) → HasMoved m.from m.to one path → HasMoved m.from m.to other path → one ≡ other
  same_old one other path a b =
      let rests : 47 ∷ a.rest ≡ 47 ∷ b.rest = append_cancel_left m.to (47 ∷ a.rest) (47 ∷ b.rest) (sym a.is ∙ b.is) in
      a.was ∙ ap (λ l. m.from ++ l) rests ∙ sym b.was

  pub moves_apart : (w : Workspace) → IsFree w m.to → AreApart s w
  moves_apart w free one other path a b = elim (goes one path a.1) [
    | inl moved ↦ elim (goes other path b.1) [
      | inl too ↦ same_old one other path moved.moved too.moved
      | inr stays ↦ absurd (free other b.0 (moved.moved.rest, sym stays ∙ moved.moved.is))
    ]
    | inr stays ↦ elim (goes other path b.1) [
      | inl too ↦ absurd (free one a.0 (too.moved.rest, sym stays ∙ too.moved.is))
      | inr also ↦ sym stays ∙ also
    ]
  ]

pub move_edits_apart : (w v : Workspace) (known : Verdicts) (from to : List ℕ) (s : FileChanges) → AreMoveEdits v known from to to s → IsFree w to →
    AreApart s w
move_edits_apart w v known from to s are free =
    moves_apart are.moved s are.only w (subst (λ q. IsFree w q) (sym are.is_move.target) free)
