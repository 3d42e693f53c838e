-- The invariants of the loops of `members_abroad::add_known_members`.
use Rattle.base_files.specs.Workspace.{Workspace}
use Rattle.go_scope.specs.Named.{name_value}
use Rattle.types_declared.specs.Package.{Package}
use Rattle.workspace_check.specs.Verdicts.{Verdicts}
use Rattle.refs_binding.specs.Members.{definitions_known}
use Rattle.refs_binding.specs.Steps.{AddsPlaces}
use Rattle.refs_binding.proofs.Adding.{Below}
use Rattle.refs_uses.specs.MembersAbroad.{IsKnownOf}
use Rattle.refs_uses.specs.SoughtMembers.{AllHaveName}
use Rattle.refs_uses.proofs.SomeMembers.{IsFileUseOfSome}
use Rattle.refs_uses.proofs.members_abroad.add_known_members.Given as goal

-- the member uses of the files that were passed were added
abbrev pub invariant-loop-file : goal.invariant-loop-file
invariant-loop-file l = (w : Workspace) (known : Verdicts) (p : Package) → IsKnownOf w known p l.of →
    AllHaveName w known l.sought.set.now (name_value l.sought.member) →
    AddsPlaces l.initial.spots.items l.spots.items (Below (IsFileUseOfSome (definitions_known l.of.types) p l.sought.set.now l.of.members.now) l.file)
