-- What the loop of `member_name::have_only_name` keeps.
use Rattle.std.proofs.Common.{take}
use Rattle.std.specs.Prelude.{Contains}
use Rattle.types_declared.specs.Package.{Package}
use Rattle.refs_binding.specs.declared.declaration.Declaration.{Declaration}
use Rattle.refs_binding.specs.Uses.{IsCheckedPackage}
use Rattle.refs_binding.specs.Workspaces.{known_in}
use Rattle.refs_uses.specs.MemberNames.{IsOnlyName}
use Rattle.refs_uses.proofs.member_name.have_only_name.Given as goal

-- those that were passed have the name
abbrev pub invariant-loop-member : goal.invariant-loop-member
invariant-loop-member l =
    (d : Declaration) → Contains (take l.member-index l.set) d → (p : Package) → IsCheckedPackage l.workspace.graph (known_in l.workspace.findings) p →
    IsOnlyName p d l.name
