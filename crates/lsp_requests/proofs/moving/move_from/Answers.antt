-- The answers to the goals of `moving::move_from`.
use Rattle.std.proofs.Common.{refl, subst}
use Rattle.std.specs.Option.{option_copied}
use Rattle.std.specs.Prelude.{Err, Ok}
use Rattle.lsp_requests.specs.FolderMoves.{MovesNamed}
use Rattle.lsp_requests.proofs.moving.move_from.Goals as goal

pub returns-in-Ok-clause-told : goal.returns-in-Ok-clause-told
returns-in-Ok-clause-told g c = (
  Ok c.in-Ok.to,
  c.in-Ok.ensures,
  subst (λ to. MovesNamed c.args.sight.telling c.args.sight.view.now.snapshot (option_copied c.args.from) to c.move_named.result)
      c.as_ref.ensures.value c.move_named.ensures.told,
)

pub returns-in-Err-clause-told : goal.returns-in-Err-clause-told
returns-in-Err-clause-told g c = (Err c.in-Err.fault, c.in-Err.ensures, refl)
