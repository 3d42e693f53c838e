-- Files at paths that the edit set does not name are equal before and after it.
use Rattle.std.proofs.Common.{◌≡◌, ap, subst, ◌∙◌}
use Rattle.std.proofs.lemmas.Result.{IfOk-weaker}
use Rattle.base_edits.specs.EditSet.{FileChanges}
use Rattle.workspace_graph.specs.Borrows.{names}
use Rattle.workspace_graph.specs.SameGoFiles.{DiffersOnlyAt}
use Rattle.workspace_snapshot.specs.Named.{HasAll, NamesPath}
use Rattle.workspace_snapshot.specs.Made.{IsMadeByEdits}
use Rattle.workspace_snapshot.specs.declared.change.Change.{Change}
use Rattle.workspace_snapshot.proofs.NamedPaths.{made_differs}
use Rattle.workspace_snapshot.proofs.made_change.MadeChange.paths.Goals as goal

pub returns : goal.returns
returns c =
    let made = subst IsMadeByEdits c.self.view_is c.self.invariant.0 in
    let named : FileChanges = record { changed = c.changed.result.now; added = c.added.result.now } in
    let lists : ◌≡◌ {A = FileChanges} named c.self.inside.change.edits =
    (λ i. record { changed = c.changed.ensures.changed i; added = c.added.ensures i }) in
    let edits = lists ∙ ap (λ (x : Change). x.edits) c.self.view_is in
    IfOk-weaker c.named_paths.result (λ paths. HasAll (NamesPath named) (names paths.items))
    (λ paths. DiffersOnlyAt (names paths.items) c.args.self.now.base c.args.self.now.files)
    (λ paths holds. made_differs c.args.self.now made (names paths.items)
    (subst (λ (s : FileChanges). HasAll (NamesPath s) (names paths.items)) edits holds))
    c.named_paths.ensures
