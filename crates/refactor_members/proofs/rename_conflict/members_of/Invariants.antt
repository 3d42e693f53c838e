-- What the loop of `rename_conflict::members_of` keeps.
use Rattle.std.proofs.Common.{take}
use Rattle.refs_binding.specs.Uses.{IsCheckedPackage}
use Rattle.refs_binding.specs.Workspaces.{known_in}
use Rattle.refactor_members.specs.Renames.{AreMembersOf}
use Rattle.refactor_members.proofs.rename_conflict.members_of.Given as goal

-- the list has those that were passed
abbrev pub invariant-loop-declaration : goal.invariant-loop-declaration
invariant-loop-declaration l =
    AreMembersOf (IsCheckedPackage l.workspace.graph (known_in l.workspace.findings)) (take l.declaration-index l.set) l.members.items
