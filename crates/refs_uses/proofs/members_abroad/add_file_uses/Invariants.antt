-- The invariants of the loops of `members_abroad::add_file_uses`.
use Rattle.std.specs.Prelude.{map}
use Rattle.base_files.specs.Workspace.{Workspace}
use Rattle.go_scope.specs.Named.{name_value}
use Rattle.types_expr.specs.Found.{use_of}
use Rattle.types_declared.specs.Package.{Package}
use Rattle.workspace_check.specs.Verdicts.{Verdicts}
use Rattle.refs_binding.specs.Members.{definitions_known}
use Rattle.refs_binding.specs.Steps.{AddsPlaces}
use Rattle.refs_binding.proofs.Adding.{Below}
use Rattle.refs_uses.specs.MembersAbroad.{IsKnownOf}
use Rattle.refs_uses.specs.SoughtMembers.{AllHaveName}
use Rattle.refs_uses.proofs.SomeMembers.{IsUseOfSomeAt}
use Rattle.refs_uses.proofs.members_abroad.add_file_uses.Given as goal

-- the member uses that were passed were added
abbrev pub invariant-loop-k : goal.invariant-loop-k
invariant-loop-k l = (w : Workspace) (known : Verdicts) (p : Package) → IsKnownOf w known p l.of →
    AllHaveName w known l.sought.set.now (name_value l.sought.member) →
    AddsPlaces l.initial.spots.items l.spots.items
    (Below (IsUseOfSomeAt (definitions_known l.of.types) p l.file l.sought.set.now (map use_of l.uses)) l.k)
