-- What the loop of `concerned::has_renamed` keeps.
use Rattle.std.proofs.Common.{◌≡◌, take}
use Rattle.std.specs.Prelude.{Contains, Some}
use Rattle.refactor_members.specs.declared.member_rename.RenamedMember.{RenamedMember}
use Rattle.refactor_members.proofs.concerned.has_renamed.Given as goal

-- no member that was passed is that of the type definition
abbrev pub invariant-loop-member : goal.invariant-loop-member
invariant-loop-member l = (x : RenamedMember) → Contains (take l.member-index l.m.members.now) x → x.definition ≡ Some l.rank → ⊥
