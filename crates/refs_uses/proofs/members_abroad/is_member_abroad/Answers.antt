-- The answers to the goals of `members_abroad::is_member_abroad`.
use Rattle.std.proofs.Common.{sym, subst}
use Rattle.refs_binding.specs.Workspaces.{known_in}
use Rattle.refs_uses.specs.MembersAbroad.{IsMemberAbroad}
use Rattle.refs_uses.proofs.MembersUsed.{not_both}
use Rattle.refs_uses.proofs.members_abroad.is_member_abroad.Goals as goal

pub returns-in-Field : goal.returns-in-Field
returns-in-Field c = λ abroad.
    subst (IsMemberAbroad c.args.at.workspace.now.graph (known_in c.args.at.workspace.now.findings) c.args.at.number) (sym c.in-Field.is)
    (λ p is same. not_both c.is_home.result abroad ((c.is_home.ensures p is).1 same))

pub returns-in-Method : goal.returns-in-Method
returns-in-Method c = λ abroad.
    subst (IsMemberAbroad c.args.at.workspace.now.graph (known_in c.args.at.workspace.now.findings) c.args.at.number) (sym c.in-Method.is)
    (λ p is same. not_both c.is_home-in-Method.result abroad ((c.is_home-in-Method.ensures p is).1 same))
