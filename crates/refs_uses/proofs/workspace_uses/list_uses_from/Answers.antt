-- The answers to the goals of `workspace_uses::list_uses_from`.
use Rattle.std.proofs.Common.{sym, subst}
use Rattle.refs_binding.specs.Workspaces.{known_in, ListsFound}
use Rattle.refs_lookup.proofs.Asking.{lists_found}
use Rattle.refs_uses.proofs.workspace_uses.list_uses_from.Goals as goal

pub returns : goal.returns
returns c =
    let w = c.args.read.workspace.now.graph in
    let known = known_in c.args.read.workspace.now.findings in
    let d = c.args.declaration.now in
    subst (ListsFound w known d) (sym c.new.ensures)
    (lists_found w known d c.in_ok-places.field-0.items c.new-spots.result.items c.add_uses_from.new.spots.items c.new-spots.ensures.items
    c.in_ok-places.ensures.order c.in_ok-places.ensures.each c.in_ok-add_uses_from.ensures)
