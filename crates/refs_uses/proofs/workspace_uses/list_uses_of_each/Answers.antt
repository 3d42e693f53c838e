-- The answers to the goals of `workspace_uses::list_uses_of_each`.
use Rattle.std.proofs.Common.{sym, subst}
use Rattle.refs_binding.specs.Workspaces.{known_in}
use Rattle.refs_uses.specs.UsesOfEach.{ListsUsesOfEach}
use Rattle.refs_uses.proofs.UsesOfSome.{lists_uses_of_each}
use Rattle.refs_uses.proofs.workspace_uses.list_uses_of_each.Goals as goal

pub returns : goal.returns
returns c =
    let w = c.args.read.workspace.now.graph in
    let known = known_in c.args.read.workspace.now.findings in
    subst (ListsUsesOfEach w known c.args.set.now) (sym c.new.ensures)
    (lists_uses_of_each w known c.args.set.now c.in_ok-places.field-0.items c.new-spots.result.items c.add_uses_of_list.new.spots.items
    c.new-spots.ensures.items c.in_ok-places.ensures.order c.in_ok-places.ensures.each c.in_ok-add_uses_of_list.ensures)
