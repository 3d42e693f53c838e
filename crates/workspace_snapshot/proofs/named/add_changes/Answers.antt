-- One more change, and all of them at the end.
use Rattle.std.proofs.Common.{◌+◌, [], take, subst, arith}
use Rattle.std.proofs.lemmas.List.{take_all}
use Rattle.base_lemmas.proofs.Elements.{nothing_in}
use Rattle.workspace_graph.specs.Borrows.{names}
use Rattle.workspace_snapshot.specs.Named.{AddsEachPath, IsPathOfChange, IsPathOfChanges}
use Rattle.workspace_snapshot.proofs.NamedPaths.{adds_none, adds_more, one_more}
use Rattle.workspace_snapshot.proofs.named.add_changes.Goals as goal

pub loop-change-init : goal.loop-change-init
loop-change-init c = adds_none (IsPathOfChanges []) (names c.args.paths.now.items) (λ p w. nothing_in w.0 w.1.0)

pub loop-change-preserved : goal.loop-change-preserved
loop-change-preserved c =
    let all = c.args.changes.now in
    let k = c.loop-change.change-index in
    adds_more (IsPathOfChanges (take k all)) (IsPathOfChange c.change-item.result) (IsPathOfChanges (take (k + 1) all)) (names c.args.paths.now.items)
    (names c.loop-change.paths.items) (names c.add_change.new.paths.items)
    (one_more IsPathOfChange all k c.change-item.result c.loop-change-test.true c.change-item.is) c.loop-change.invariant c.in_ok-add_change.ensures

pub returns : goal.returns
returns c = subst (λ cs. AddsEachPath (IsPathOfChanges cs) (names c.args.paths.now.items) (names c.loop-change.paths.items))
    (take_all c.loop-change.change-index c.args.changes.now (omega (arith, c.loop-change-test.false))) c.loop-change.invariant
