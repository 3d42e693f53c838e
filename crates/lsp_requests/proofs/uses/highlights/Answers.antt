-- The answers to the goals of `uses::highlights`.
use Rattle.std.proofs.Common.{subst}
use Rattle.std.specs.Prelude.{Ok}
use Rattle.refs_binding.specs.Uses.{AnswersUses}
use Rattle.lsp_requests.specs.Uses.{TellsHighlightsOf}
use Rattle.lsp_requests.proofs.uses.highlights.Goals as goal

pub returns-in-Ok-clause-told : goal.returns-in-Ok-clause-told
returns-in-Ok-clause-told g c =
    let files = c.args.sight.view.now.snapshot.files in (
      Ok c.in-Ok.places,
      subst (λ path. AnswersUses files path c.args.at.now.offset (Ok c.in-Ok.places)) c.as_str.ensures.text c.in-Ok.ensures.uses,
      subst (λ places. TellsHighlightsOf c.args.sight.telling files c.args.at.now places c.highlights_told.result) c.as_slice.ensures
          c.highlights_told.ensures,
    )
