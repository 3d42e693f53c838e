-- The base of the change has the same bytes in the same files.
use Rattle.std.proofs.Common.{sym, ap, ◌∙◌}
use Rattle.workspace_snapshot.specs.declared.change.Change.{Change}
use Rattle.history_book.proofs.content.is_based.Goals as goal

pub returns : goal.returns
returns c =
    let there = c.files.ensures ∙ ap (λ (x : Change). x.base) c.get.ensures in (
      λ t. sym there ∙ c.same.ensures.0 t ∙ c.files-2.ensures,
      λ same. c.same.ensures.1 (there ∙ same ∙ sym c.files-2.ensures),
    )
