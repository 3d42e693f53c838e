-- A push, undo and redo of a history of inverses.
use Rattle.std.proofs.Common.{◌≡◌, ℕ, zero, suc, ◌-◌, ◌≤◌, List, [], ◌∷◌, ◌++◌, length, drop, sym, ap, ◌∙◌, arith, length-append}
use Rattle.std.proofs.Math.ListN.{drop_of_length-le}
use Rattle.std.proofs.lemmas.List.{drop-append-le, length_push, same_from_push}
use Rattle.base_files.specs.Workspace.{Workspace}
use Rattle.base_edits.specs.EditSet.{FileChanges, edited}
use Rattle.history_inverses.specs.Inverses.{Inverses, latest}
use Rattle.history_inverses.specs.Laws.{StandsAgain}
use Rattle.history_inverses.specs.Moves.{MovesBack, MovesForth}
use Rattle.history_inverses.proofs.Walks.{can_change}
use Rattle.law_history.specs.Pushing.{PushesAreUndone, PushesStand, UndoReturns}

pub pushes_stand : PushesStand
pushes_stand old way before after stands back = record {
  behind = can_change (length (old.behind ++ way ∷ []) - old.depth) before after old.behind way back stands.behind;
  ahead = tt;
}

-- The nearest inverse after a push, where there is one, is the one that was pushed.
nearest_pushed : (depth : ℕ) (ways left : List FileChanges) (way other : FileChanges) → latest depth (ways ++ way ∷ []) ≡ left ++ other ∷ [] → way ≡ other
nearest_pushed zero ways left way other is =
    let none : latest zero (ways ++ way ∷ []) ≡ [] = drop_of_length-le (ways ++ way ∷ []) (omega arith) in
    absurd (omega (arith, length-append left (other ∷ []), ap length (sym is ∙ none)))
nearest_pushed (suc depth) ways left way other is =
    let gone : ℕ = length (ways ++ way ∷ []) - suc depth in
    let within : gone ≤ length ways = omega (arith, length-append ways (way ∷ [])) in
    (same_from_push (drop gone ways) left way other (sym (drop-append-le gone ways (way ∷ []) within) ∙ is)).1

pub pushes_are_undone : PushesAreUndone
pushes_are_undone old undone way before after end back moved =
    let same = nearest_pushed old.depth old.behind undone.behind way moved.steps.way moved.steps.behind in
    moved.files ∙ ap (λ (x : FileChanges). edited x after) (sym same) ∙ back.back

module _ (start redone end : Inverses) (before between after : Workspace) (forth : MovesForth start before redone between)
    (back : MovesBack redone between end after) where
  -- what undo applies is what redo left
  applied : (start.behind ≡ end.behind) × (forth.undo ≡ back.steps.way)
  applied = same_from_push start.behind end.behind forth.undo back.steps.way (sym forth.steps.behind ∙ back.steps.behind)

  pub returned : (after ≡ before) × StandsAgain start end
  returned = (
    back.files ∙ ap (λ (x : FileChanges). edited x between) (sym applied.1) ∙ forth.back.back,
    record {
      behind = ap length (sym applied.0);
      ahead = ap length back.steps.ahead ∙ length_push redone.ahead back.redo ∙
          sym (ap length forth.steps.ahead ∙ length_push redone.ahead forth.steps.way);
    },
  )

pub undo_returns : UndoReturns
undo_returns start redone end before between after forth back = returned start redone end before between after forth back
