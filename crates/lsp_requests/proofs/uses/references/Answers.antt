-- The answers to the goals of `uses::references`.
use Rattle.std.proofs.Common.{sym, subst}
use Rattle.std.specs.Prelude.{Ok}
use Rattle.refs_binding.specs.Uses.{AnswersUses}
use Rattle.lsp_requests.specs.Uses.{ListsReferences}
use Rattle.lsp_requests.proofs.uses.references.Goals as goal

pub references_of-requires : goal.references_of-requires
references_of-requires g c =
    subst (λ d. g.D.Desk.sees d c.args.sight.view.now.snapshot.files) (sym c.find_uses.ensures.same) c.requires

pub returns-in-Ok-clause-told : goal.returns-in-Ok-clause-told
returns-in-Ok-clause-told g c =
    let files = c.args.sight.view.now.snapshot.files in (
      Ok c.in-Ok.places,
      subst (λ path. AnswersUses files path c.args.at.now.offset (Ok c.in-Ok.places)) c.as_str.ensures.text c.in-Ok.ensures.uses,
      subst (λ places. ListsReferences c.args.sight.telling files c.args.at.now c.args.with_declaration places c.references_of.result)
          c.as_slice.ensures c.references_of.ensures.told,
    )
