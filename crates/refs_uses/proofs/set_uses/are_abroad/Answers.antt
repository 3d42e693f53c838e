-- The answers to the goals of `set_uses::are_abroad`.
use Rattle.std.proofs.Common.{List, arith, subst}
use Rattle.std.specs.Prelude.{Contains}
use Rattle.std.proofs.lemmas.List.{take_all}
use Rattle.refs_binding.specs.declared.declaration.Declaration.{Declaration}
use Rattle.refs_binding.specs.Workspaces.{known_in}
use Rattle.refs_uses.specs.MembersAbroad.{IsMemberAbroad}
use Rattle.refs_uses.proofs.SomeMembers.{each_more, each_none}
use Rattle.refs_uses.proofs.set_uses.are_abroad.Goals as goal

pub loop-declaration-init : goal.loop-declaration-init
loop-declaration-init c =
    each_none (IsMemberAbroad c.args.at.workspace.now.graph (known_in c.args.at.workspace.now.findings) c.args.at.number)

pub loop-declaration-preserved : goal.loop-declaration-preserved
loop-declaration-preserved c =
    each_more (IsMemberAbroad c.args.at.workspace.now.graph (known_in c.args.at.workspace.now.findings) c.args.at.number) c.args.set.now
    c.loop-declaration.declaration-index c.declaration-item.result c.loop-declaration-test.true c.declaration-item.is c.loop-declaration.invariant
    (c.is_member_abroad.ensures c.if-not-is_member_abroad.false)

pub returns : goal.returns
returns c = λ told.
    subst (λ (l : List Declaration). (d : Declaration) → Contains l d →
    IsMemberAbroad c.args.at.workspace.now.graph (known_in c.args.at.workspace.now.findings) c.args.at.number d)
    (take_all c.loop-declaration.declaration-index c.args.set.now (omega (arith, c.loop-declaration-test.false))) c.loop-declaration.invariant
