-- The answers to the goals of `set_uses::add_members_at`.
use Rattle.std.proofs.lemmas.Result.{on_ok_weaker}
use Rattle.refs_binding.specs.Workspaces.{known_in}
use Rattle.refs_binding.proofs.Units.{package_there}
use Rattle.refs_uses.proofs.SomeMembers.{some_used_at}
use Rattle.refs_uses.proofs.set_uses.add_members_at.Goals as goal

pub returns : goal.returns
returns c =
    let w = c.args.at.workspace.now.graph in
    let found = c.args.at.workspace.now.findings in
    let n = c.args.at.number in
    let there = package_there w found c.has_no_faults.ensures n c.requires.numbered.in_range in
    on_ok_weaker c.add_names.result (λ named. some_used_at w (known_in found) c.args.sought.now.set.now c.requires.members n there.0 there.1
    c.args.spots.now.items c.add_used.new.spots.items c.add_names.new.spots.items (c.in_ok-add_used.ensures there.0 there.1) (named there.0 there.1))
    c.add_names.ensures
