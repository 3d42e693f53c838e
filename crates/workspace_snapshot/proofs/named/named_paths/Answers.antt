-- First those of the changes, then those of the added files.
use Rattle.workspace_graph.specs.Borrows.{names}
use Rattle.base_edits.specs.EditSet.{FileChanges}
use Rattle.workspace_snapshot.specs.Named.{NamesPath, IsPathOfAdded, IsPathOfChanges}
use Rattle.workspace_snapshot.proofs.NamedPaths.{adds_more}
use Rattle.workspace_snapshot.proofs.named.named_paths.Goals as goal

pub returns : goal.returns
returns c =
    let s : FileChanges = record { changed = c.args.changed.now; added = c.args.added.now } in
    let none = names c.new-paths.result.items in
    let some = names c.add_changes.new.paths.items in
    let all = names c.add_added.new.paths.items in
    let both = adds_more (IsPathOfChanges s.changed) (IsPathOfAdded s.added) (NamesPath s) none some all (λ p named. named)
    c.in_ok-add_changes.ensures c.in_ok-add_added.ensures in
    both.each
