-- One more package, and all of them at the end.
use Rattle.std.proofs.Common.{List, subst, arith}
use Rattle.std.specs.List.{All}
use Rattle.std.proofs.lemmas.List.{take_all}
use Rattle.workspace_graph.specs.Changed.{HasRow}
use Rattle.workspace_graph.specs.Graphs.{paths_of}
use Rattle.workspace_graph.specs.declared.package.ParsedPackage.{ParsedPackage}
use Rattle.workspace_graph.proofs.ChangedPackages.{all_more}
use Rattle.workspace_graph.proofs.changed.keep_rows.Goals as goal

pub loop-package-preserved : goal.loop-package-preserved
loop-package-preserved c =
    all_more (HasRow (paths_of c.args.packages.now) c.args.links.now) c.args.fresh.now c.loop-package.package-index c.package-item.result
    c.loop-package-test.true c.package-item.is c.loop-package.invariant (c.in_ok-keeps_row.ensures c.if-not-branch.false)

pub returns : goal.returns
returns c = λ _.
    subst (λ (ps : List ParsedPackage). All (HasRow (paths_of c.args.packages.now) c.args.links.now) ps)
    (take_all c.loop-package.package-index c.args.fresh.now (omega (arith, c.loop-package-test.false))) c.loop-package.invariant
