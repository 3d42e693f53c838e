-- The answers to the goals of `answering::answer_at`.
use Rattle.std.proofs.Common.{refl, subst}
use Rattle.std.specs.Prelude.{Err, Ok}
use Rattle.lsp_params.specs.Asked.{place_view}
use Rattle.lsp_told.specs.Asking.{FindsByte}
use Rattle.lsp_requests.proofs.answering.answer_at.Goals as goal

pub returns-in-Ok-clause-told : goal.returns-in-Ok-clause-told
returns-in-Ok-clause-told g c = (
  Ok c.in-Ok.at,
  subst (λ files. FindsByte c.args.sight.telling files (place_view c.args.at) (Ok c.in-Ok.at)) c.files.ensures c.in-Ok.ensures,
  c.answer_byte.ensures.told,
)

pub returns-in-Err-clause-told : goal.returns-in-Err-clause-told
returns-in-Err-clause-told g c = (
  Err c.in-Err.fault,
  subst (λ files. FindsByte c.args.sight.telling files (place_view c.args.at) (Err c.in-Err.fault)) c.files.ensures c.in-Err.ensures,
  refl,
)
