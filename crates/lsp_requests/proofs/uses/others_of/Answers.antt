-- The answers to the goals of `uses::others_of`.
use Rattle.std.proofs.Common.{subst}
use Rattle.std.specs.Prelude.{Ok}
use Rattle.lsp_requests.specs.Uses.{ListsUsesBut}
use Rattle.lsp_requests.proofs.uses.others_of.Goals as goal

pub returns-in-Ok-clause-told : goal.returns-in-Ok-clause-told
returns-in-Ok-clause-told g c = (
  Ok c.in-Ok.declared,
  c.in-Ok.ensures.place,
  subst (λ left_out. ListsUsesBut c.args.sight.telling c.args.sight.view.now.snapshot.files c.args.places.now left_out c.places_told.result)
      c.as_ref.ensures.value c.places_told.ensures,
)
