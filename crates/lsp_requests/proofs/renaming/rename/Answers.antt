-- The answers to the goals of `renaming::rename`.
use Rattle.std.proofs.Common.{refl, subst}
use Rattle.std.specs.Prelude.{Err, Ok}
use Rattle.lsp_params.specs.Asked.{place_view}
use Rattle.lsp_told.specs.Asking.{FindsByte}
use Rattle.lsp_requests.proofs.renaming.rename.Goals as goal

pub returns-in-Ok : goal.returns-in-Ok
returns-in-Ok g c = (
  Ok c.in-Ok.at,
  subst (λ files. FindsByte c.args.sight.telling files (place_view c.args.asked.at) (Ok c.in-Ok.at)) c.files.ensures c.in-Ok.ensures,
  c.rename_byte.ensures,
)

pub returns-in-Err : goal.returns-in-Err
returns-in-Err g c = (
  Err c.in-Err.fault,
  subst (λ files. FindsByte c.args.sight.telling files (place_view c.args.asked.at) (Err c.in-Err.fault)) c.files.ensures c.in-Err.ensures,
  (refl, refl),
)
