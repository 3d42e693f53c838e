-- One more file, and all of them at the end.
use Rattle.std.proofs.Common.{◌≡◌, ◌+◌, ℕ, List, [], take, subst, arith}
use Rattle.std.proofs.lemmas.List.{take_all}
use Rattle.base_lemmas.proofs.Elements.{nothing_in}
use Rattle.workspace_graph.specs.Borrows.{names}
use Rattle.workspace_snapshot.specs.Named.{AddsEachPath, IsPathOfAdded}
use Rattle.workspace_snapshot.proofs.NamedPaths.{adds_none, adds_more, one_more}
use Rattle.workspace_snapshot.proofs.named.add_added.Goals as goal

pub loop-file-init : goal.loop-file-init
loop-file-init c = adds_none (IsPathOfAdded []) (names c.args.paths.now.items) (λ p w. nothing_in w.0 w.1.0)

pub loop-file-preserved : goal.loop-file-preserved
loop-file-preserved c =
    let all = c.args.added.now in
    let k = c.loop-file.file-index in
    adds_more (IsPathOfAdded (take k all)) (λ p. c.file-item.result.0 ≡ p) (IsPathOfAdded (take (k + 1) all)) (names c.args.paths.now.items)
    (names c.loop-file.paths.items) (names c.add_path.new.paths.items)
    (one_more (λ (e : List ℕ × List ℕ) p. e.0 ≡ p) all k c.file-item.result c.loop-file-test.true c.file-item.is) c.loop-file.invariant c.in_ok-add_path.ensures

pub returns : goal.returns
returns c = subst (λ cs. AddsEachPath (IsPathOfAdded cs) (names c.args.paths.now.items) (names c.loop-file.paths.items))
    (take_all c.loop-file.file-index c.args.added.now (omega (arith, c.loop-file-test.false))) c.loop-file.invariant
