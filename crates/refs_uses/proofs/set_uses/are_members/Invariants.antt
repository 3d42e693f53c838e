-- What the loop of `set_uses::are_members` keeps.
use Rattle.std.proofs.Common.{take}
use Rattle.refs_uses.specs.SoughtMembers.{AllAreMembers}
use Rattle.refs_uses.proofs.set_uses.are_members.Given as goal

-- those that were passed are fields or methods
abbrev pub invariant-loop-declaration : goal.invariant-loop-declaration
invariant-loop-declaration l = AllAreMembers (take l.declaration-index l.set)
