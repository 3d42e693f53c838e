-- The answers to the goals of `set_uses::are_members`.
use Rattle.std.proofs.Common.{arith, subst}
use Rattle.std.proofs.lemmas.List.{take_all}
use Rattle.refs_uses.specs.SoughtMembers.{AllAreMembers, IsFieldOrMethod}
use Rattle.refs_uses.proofs.SomeMembers.{each_more, each_none}
use Rattle.refs_uses.proofs.set_uses.are_members.Goals as goal

pub loop-declaration-init : goal.loop-declaration-init
loop-declaration-init c = each_none IsFieldOrMethod

pub loop-declaration-preserved : goal.loop-declaration-preserved
loop-declaration-preserved c =
    each_more IsFieldOrMethod c.args.set.now c.loop-declaration.declaration-index c.declaration-item.result c.loop-declaration-test.true
    c.declaration-item.is c.loop-declaration.invariant (c.is_field_or_method.ensures c.if-not-is_field_or_method.false)

pub returns : goal.returns
returns c = λ told.
    subst AllAreMembers (take_all c.loop-declaration.declaration-index c.args.set.now (omega (arith, c.loop-declaration-test.false)))
    c.loop-declaration.invariant
