-- The answers to the goals of `workspace_uses::add_uses_of_each`.
use Rattle.refs_binding.specs.Workspaces.{known_in}
use Rattle.refs_uses.proofs.UsesOfSome.{no_uses, more_uses}
use Rattle.refs_uses.proofs.workspace_uses.add_uses_of_each.Goals as goal

pub loop-declaration-init : goal.loop-declaration-init
loop-declaration-init c = no_uses c.args.read.workspace.now.graph (known_in c.args.read.workspace.now.findings) c.args.spots.now.items

pub loop-declaration-preserved : goal.loop-declaration-preserved
loop-declaration-preserved c =
    more_uses c.args.read.workspace.now.graph (known_in c.args.read.workspace.now.findings) c.args.set.now c.loop-declaration.declaration-index
    c.declaration-item.result c.args.spots.now.items c.loop-declaration.spots.items c.add_uses_from.new.spots.items c.loop-declaration-test.true
    c.declaration-item.is c.loop-declaration.invariant c.in_ok-add_uses_from.ensures
