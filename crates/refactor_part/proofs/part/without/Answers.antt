-- One more file is left out.
use Rattle.std.proofs.Common.{◌≡◌, ◌+◌, ◌++◌, ◌∷◌, [], List, ℕ, Bor, take, sym, subst}
use Rattle.workspace_graph.specs.Borrows.{names}
use Rattle.workspace_graph.proofs.ChangedFiles.{names_more}
use Rattle.refactor_part.specs.LeftOut.{LeavesOut}
use Rattle.refactor_part.proofs.LeftFiles.{leaves_more}
use Rattle.refactor_part.proofs.part.without.Goals as goal

pub loop-path-preserved : goal.loop-path-preserved
loop-path-preserved c =
    let all = c.args.paths.now in
    let k = c.loop-path.path-index in
    let path = c.path-item.result.now in
    let more : names (take (k + 1) all) ≡ names (take k all) ++ path ∷ [] = names_more all k c.path-item.result c.loop-path-test.true c.path-item.is in
    subst (λ ps. LeavesOut ps c.args.files.now c.remove.new.self) (sym more)
    (leaves_more c.args.files.now c.loop-path.left (names (take k all)) path c.remove.new.self c.in_ok-remove.ensures.ok c.loop-path.invariant)
