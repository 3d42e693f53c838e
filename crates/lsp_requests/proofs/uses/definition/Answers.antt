-- The answers to the goals of `uses::definition`.
use Rattle.std.proofs.Common.{subst}
use Rattle.std.specs.Prelude.{Ok}
use Rattle.lsp_told.specs.Locations.{TellsLocation}
use Rattle.lsp_requests.proofs.uses.definition.Goals as goal

pub returns-in-Ok-clause-told : goal.returns-in-Ok-clause-told
returns-in-Ok-clause-told g c = (
  Ok c.in-Ok.place,
  c.in-Ok.ensures.place,
  subst (λ place. TellsLocation c.args.sight.telling c.args.sight.view.now.snapshot.files place c.declared_told.result) c.as_ref.ensures.value
      c.declared_told.ensures,
)
