-- Undo and then redo.
use Rattle.std.proofs.Common.{◌≡◌, length, sym, ap, ◌∙◌}
use Rattle.std.proofs.lemmas.List.{length_push, same_from_push}
use Rattle.base_files.specs.Workspace.{Workspace}
use Rattle.base_edits.specs.EditSet.{FileChanges, edited}
use Rattle.history_inverses.specs.Inverses.{Inverses}
use Rattle.history_inverses.specs.Laws.{RedoReturns, StandsAgain}
use Rattle.history_inverses.specs.Moves.{MovesBack, MovesForth}

module _ (start undone end : Inverses) (before between after : Workspace) (back : MovesBack start before undone between)
    (forth : MovesForth undone between end after) where
  -- what redo applies is what undo left
  applied : (start.ahead ≡ end.ahead) × (back.redo ≡ forth.steps.way)
  applied = same_from_push start.ahead end.ahead back.redo forth.steps.way (sym back.steps.ahead ∙ forth.steps.ahead)

  files_return : after ≡ before
  files_return = forth.files ∙ ap (λ (x : FileChanges). edited x between) (sym applied.1) ∙ back.forth.back

  pub returned : (after ≡ before) × StandsAgain start end
  returned = (
    files_return,
    record {
      behind = ap length forth.steps.behind ∙ length_push undone.behind forth.undo ∙
          sym (ap length back.steps.behind ∙ length_push undone.behind back.steps.way);
      ahead = ap length (sym applied.0);
    },
  )

pub redo_returns : RedoReturns
redo_returns start undone end before between after back forth = returned start undone end before between after back forth
