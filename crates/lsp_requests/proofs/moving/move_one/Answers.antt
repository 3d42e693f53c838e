-- The answers to the goals of `moving::move_one`.
use Rattle.std.proofs.Common.{refl, subst}
use Rattle.std.specs.Prelude.{Err, Ok}
use Rattle.serde_json.specs.View.{view}
use Rattle.lsp_requests.specs.FolderMoves.{MovesFrom}
use Rattle.lsp_requests.proofs.moving.move_one.Goals as goal

pub returns-in-Ok-clause-told : goal.returns-in-Ok-clause-told
returns-in-Ok-clause-told g c = (
  Ok c.in-Ok.from,
  c.in-Ok.ensures,
  subst (λ from. MovesFrom c.args.sight.telling c.args.sight.view.now.snapshot (view c.args.file.now) from c.move_from.result)
      c.as_ref.ensures.value c.move_from.ensures.told,
)

pub returns-in-Err-clause-told : goal.returns-in-Err-clause-told
returns-in-Err-clause-told g c = (Err c.in-Err.fault, c.in-Err.ensures, refl)
