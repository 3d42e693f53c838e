-- Files at paths that no change names are equal before and after.
use Rattle.std.proofs.Common.{List, ℕ, Bor, sym, subst}
use Rattle.std.specs.List.{All, Contains}
use Rattle.base_files.specs.Workspace.{Workspace}
use Rattle.base_edits.specs.EditSet.{FileChanges}
use Rattle.workspace_graph.specs.Borrows.{names}
use Rattle.workspace_graph.specs.SameGoFiles.{DiffersOnlyAt}
use Rattle.workspace_graph.specs.KnownEdits.{EditsMake}
use Rattle.workspace_snapshot.proofs.KnownEdits.{edits_make}
use Rattle.workspace_snapshot.proofs.NamedPaths.{differs_only_at}
use Rattle.workspace_snapshot.proofs.made_change.graph_with.Goals as goal

pub changed_by_edits-requires-clause-differs : goal.changed_by_edits-requires-clause-differs
changed_by_edits-requires-clause-differs c =
    let s : FileChanges = record { changed = c.args.changed.now; added = c.args.added.now } in
    let paths = names c.deref.result.now in
    subst (λ (w : Workspace). DiffersOnlyAt paths c.args.base.now w) (sym c.requires.files)
    (differs_only_at s c.args.base.now c.requires.fits paths
    (λ p named. subst (λ (ps : List (Bor (List ℕ))). Contains (names ps) p) (sym c.deref.ensures.value) (c.in_ok-paths.ensures p named)))

pub changed_by_edits-requires-clause-edits : goal.changed_by_edits-requires-clause-edits
changed_by_edits-requires-clause-edits c =
    let s : FileChanges = record { changed = c.args.changed.now; added = c.args.added.now } in
    subst (λ (w : Workspace). All (EditsMake c.args.base.now w) s.changed) (sym c.requires.files)
    (edits_make s c.args.base.now c.requires.changes c.requires.fits)
