-- The answers to the goals of `member_name::name_of_all`.
use Rattle.std.proofs.Common.{refl}
use Rattle.refs_binding.specs.Workspaces.{known_in}
use Rattle.refs_uses.proofs.NamesOfAll.{none_for_all}
use Rattle.refs_uses.proofs.member_name.name_of_all.Goals as goal

pub returns-in-None : goal.returns-in-None
returns-in-None c = none_for_all c.args.workspace.now.graph (known_in c.args.workspace.now.findings) c.args.set.now _ refl
