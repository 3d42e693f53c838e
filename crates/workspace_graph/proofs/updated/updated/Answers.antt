-- One more package, and all of them at the end.
use Rattle.std.proofs.Common.{List, subst, arith}
use Rattle.std.proofs.lemmas.List.{take_all}
use Rattle.workspace_graph.specs.Updated.{AreUpdated}
use Rattle.workspace_graph.specs.declared.package.ParsedPackage.{ParsedPackage}
use Rattle.workspace_graph.proofs.ChangedPackages.{clones_are}
use Rattle.workspace_graph.proofs.UpdatedPackages.{updated_more, updated_none}
use Rattle.workspace_graph.proofs.updated.updated.Goals as goal

pub loop-one-init : goal.loop-one-init
loop-one-init c = updated_none c.args.before.now.items c.in_ok-packages.packages.items c.requires.before
    (clones_are c.args.before.now.items c.in_ok-packages.packages.items c.in_ok-packages.ensures.cases.0)

pub put-requires : goal.put-requires
put-requires c = c.loop-one.invariant.sorted

pub loop-one-preserved : goal.loop-one-preserved
loop-one-preserved c = updated_more c.args.before.now.items c.args.fresh.now c.loop-one.packages.items c.put.new.packages.items c.loop-one.one-index
    c.one-item.result c.requires.fresh c.loop-one-test.true c.one-item.is c.loop-one.invariant c.in_ok-put.ensures

pub returns : goal.returns
returns c = subst (λ (ps : List ParsedPackage). AreUpdated c.args.before.now.items ps c.loop-one.packages.items)
    (take_all c.loop-one.one-index c.args.fresh.now (omega (arith, c.loop-one-test.false))) c.loop-one.invariant
