-- The changes and the files are no edit set.
use Rattle.std.proofs.Common.{sym, ◌∙◌}
use Rattle.std.proofs.lemmas.Bool.{false≢true}
use Rattle.history_records.proofs.Parts.{not_set, same_set}
use Rattle.history_records.proofs.lists.read_edit_set.Goals as goal

pub returns-clause-err : goal.returns-clause-err
returns-clause-err c =
    not_set c.args.bytes.now (record { changed = c.in_ok-files.files.changed.items; added = c.in_ok-files.files.added.items }) c.in_ok-files.rest.now
    c.in_ok-files.ensures.ok (λ s. false≢true (sym c.if-branch.false ∙ c.in_ok-is_edit_set.ensures.1
    (same_set c.deref.result.now c.in_ok-files.files.changed.items c.deref-2.result.now c.in_ok-files.files.added.items c.deref.ensures.value
    c.deref-2.ensures.value s)))
