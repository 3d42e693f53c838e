-- One more folder, and all of them at the end.
use Rattle.std.proofs.Common.{List, ℕ, Bor, subst, arith, take}
use Rattle.std.proofs.lemmas.List.{take_all}
use Rattle.workspace_graph.specs.Borrows.{names}
use Rattle.workspace_graph.specs.ChangedFiles.{HaveFolders}
use Rattle.workspace_graph.proofs.ChangedFiles.{folders_more, folders_none, names_more}
use Rattle.workspace_graph.proofs.folders.folders_of.Goals as goal

pub loop-path-init : goal.loop-path-init
loop-path-init c = folders_none (names c.new-folders.result.keys)

pub loop-path-preserved : goal.loop-path-preserved
loop-path-preserved c =
    let all = c.args.paths.now in
    let k = c.loop-path.path-index in
    let old = c.loop-path.folders.keys in
    rw (c.in_ok-insert.ensures.keys, names_more all k c.path-item.result c.loop-path-test.true c.path-item.is)
    (folders_more (names (take k all)) c.path-item.result.now old c.folder.result c.loop-path.invariant c.folder.ensures)

pub returns : goal.returns
returns c = subst (λ (paths : List (Bor (List ℕ))). HaveFolders (names paths) (names c.loop-path.folders.keys))
    (take_all c.loop-path.path-index c.args.paths.now (omega (arith, c.loop-path-test.false))) c.loop-path.invariant
