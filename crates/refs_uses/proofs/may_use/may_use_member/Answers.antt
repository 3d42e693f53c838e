-- The answers to the goals of `may_use::may_use_member`.
use Rattle.refs_binding.specs.Workspaces.{known_in}
use Rattle.refs_uses.proofs.MayUse.{member_reached, other_home}
use Rattle.refs_uses.proofs.MemberNames.{use_named}
use Rattle.refs_uses.proofs.may_use.may_use_member.Goals as goal

pub returns-then-is_marked : goal.returns-then-is_marked
returns-then-is_marked c = λ p is file token m.
    let w = c.args.workspace.now.graph in
    let d = c.args.sought.now.declaration.now in
    c.may_name.ensures p is file token d m (λ name found.
    use_named p d name (c.requires.named name found p is.is_package) file token m
    (other_home w c.args.home c.args.number c.requires.other p.path is.has_number d c.requires.home))

pub returns-else-is_marked : goal.returns-else-is_marked
returns-else-is_marked c = λ p is file token m.
    let r = member_reached c.args.workspace.now.graph (known_in c.args.workspace.now.findings) c.has_no_faults.ensures.findings.right c.args.number p
    is c.args.home file token c.args.sought.now.declaration.now m c.requires.home in
    c.is_marked.ensures.1 (((c.requires.importing r.0 r.1.0).each c.args.number p.path is.has_number).1 r.1.1)
