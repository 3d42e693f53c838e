-- The answers to the goals of `member_name::name_with_all`.
use Rattle.std.proofs.Common.{refl}
use Rattle.refs_binding.specs.Workspaces.{known_in}
use Rattle.refs_uses.proofs.NamesOfAll.{found_for_all, none_for_all}
use Rattle.refs_uses.proofs.member_name.name_with_all.Goals as goal

pub returns-in-None : goal.returns-in-None
returns-in-None c = none_for_all c.args.workspace.now.graph (known_in c.args.workspace.now.findings) c.args.set.now _ refl

pub returns-then-have_only_name : goal.returns-then-have_only_name
returns-then-have_only_name c =
    found_for_all c.args.workspace.now.graph (known_in c.args.workspace.now.findings) c.in-Some.name.now c.args.set.now
    (c.have_only_name.ensures c.if-have_only_name.true) _ refl

pub returns-else-have_only_name : goal.returns-else-have_only_name
returns-else-have_only_name c = none_for_all c.args.workspace.now.graph (known_in c.args.workspace.now.findings) c.args.set.now _ refl
