-- What the loop of `set_uses::are_abroad` keeps.
use Rattle.std.proofs.Common.{take}
use Rattle.std.specs.Prelude.{Contains}
use Rattle.refs_binding.specs.declared.declaration.Declaration.{Declaration}
use Rattle.refs_binding.specs.Workspaces.{known_in}
use Rattle.refs_uses.specs.MembersAbroad.{IsMemberAbroad}
use Rattle.refs_uses.proofs.set_uses.are_abroad.Given as goal

-- those that were passed are members of other packages
abbrev pub invariant-loop-declaration : goal.invariant-loop-declaration
invariant-loop-declaration l = (d : Declaration) → Contains (take l.declaration-index l.set) d →
    IsMemberAbroad l.at.workspace.now.graph (known_in l.at.workspace.now.findings) l.at.number d
