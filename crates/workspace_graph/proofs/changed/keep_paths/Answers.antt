-- One more package, and all of them at the end.
use Rattle.std.proofs.Common.{List, subst, arith}
use Rattle.std.specs.List.{All}
use Rattle.std.proofs.lemmas.List.{take_all}
use Rattle.workspace_graph.specs.Changed.{KeepsPath}
use Rattle.workspace_graph.specs.Graphs.{paths_of}
use Rattle.workspace_graph.specs.declared.package.ParsedPackage.{ParsedPackage}
use Rattle.workspace_graph.proofs.ChangedPackages.{all_more}
use Rattle.workspace_graph.proofs.changed.keep_paths.Goals as goal

pub loop-package-preserved : goal.loop-package-preserved
loop-package-preserved c =
    all_more (KeepsPath (paths_of c.args.before.now)) c.args.fresh.now c.loop-package.package-index c.package-item.result c.loop-package-test.true
    c.package-item.is c.loop-package.invariant (c.keeps_path.ensures c.if-not-keeps_path.false)

pub returns : goal.returns
returns c = λ _.
    subst (λ (ps : List ParsedPackage). All (KeepsPath (paths_of c.args.before.now)) ps)
    (take_all c.loop-package.package-index c.args.fresh.now (omega (arith, c.loop-package-test.false))) c.loop-package.invariant
