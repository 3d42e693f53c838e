-- The laws of this crate, from what is told of packages after a move.
use Rattle.std.proofs.Common.{subst}
use Rattle.std.specs.Prelude.{Some, None}
use Rattle.base_edits.specs.RevisionsOfEdits.{revision_of}
use Rattle.refactor_conflict.specs.Conflicts.{IsFirstConflict}
use Rattle.refactor_conflict.proofs.ConflictsDiffer.{not_staying}
use Rattle.law_moves.specs.Moves.{moved_path}
use Rattle.law_moves.specs.Agreement.{MovesAreScoped, MovesAreChecked, PreservedMovesLoseNone, MovesAgree, MoveConflictsRefuse}
use Rattle.law_moves.specs.Agreement.{MoveConflictsAreTold, FirstConflictsDecideMoves}
use Rattle.law_moves.proofs.Laws.{moves_keep_names}
use Rattle.law_moves.proofs.NamesMove.{scoped_move}
use Rattle.law_moves.proofs.BindingsMove.{preserves}
use Rattle.law_moves.proofs.FromScopes.{scoped_by}
use Rattle.law_moves.proofs.ScopesStay.{preserved_loses_none}

lose_none_by : MovesAreScoped → PreservedMovesLoseNone
lose_none_by scoped w known from to s h = preserved_loses_none w known (revision_of w s) (moved_path from to) (scoped w known from to s h)

agree_by : MovesAreScoped → MovesAreChecked → MovesAgree
agree_by scoped checked w known from to s h allowed = (
  (λ none.
      let c = checked w known from to s h allowed none in
      preserves w known (revision_of w s) (moved_path from to) (scoped w known from to s h) c.0 c.1),
  lose_none_by scoped w known from to s h,
)

refuse_by : PreservedMovesLoseNone → MoveConflictsRefuse
refuse_by loses w known from to s h c conflict keeps = not_staying w known (revision_of w s) c conflict (loses w known from to s h keeps c.used)

told_by : MovesAgree → MoveConflictsAreTold
told_by agree w known from to s h allowed lost told first none =
    lost ((agree w known from to s h allowed).0 (subst (IsFirstConflict w known (revision_of w s)) none first))

decide_by : PreservedMovesLoseNone → MovesAgree → FirstConflictsDecideMoves
decide_by loses agree w known from to s h allowed None tells = (agree w known from to s h allowed).0 tells
decide_by loses agree w known from to s h allowed (Some c) tells = refuse_by loses w known from to s h c tells.0

-- with the laws of the scopes after a move

pub are_scoped : MovesAreScoped
are_scoped = scoped_by scoped_move moves_keep_names

pub loses_none : PreservedMovesLoseNone
loses_none = lose_none_by are_scoped

pub refuses : MoveConflictsRefuse
refuses = refuse_by loses_none

pub agrees : MovesAreChecked → MovesAgree
agrees = agree_by are_scoped

pub tells : MovesAreChecked → MoveConflictsAreTold
tells checked = told_by (agrees checked)

pub decides : MovesAreChecked → FirstConflictsDecideMoves
decides checked = decide_by loses_none (agrees checked)
