-- What the loop of `judged_uses::is_renamed` keeps.
use Rattle.std.proofs.Common.{◌≡◌, take}
use Rattle.std.specs.Prelude.{Contains}
use Rattle.types_expr.specs.WorldView.{member_of}
use Rattle.refs_binding.specs.Binding.{declaration_of}
use Rattle.refactor_members.specs.declared.member_rename.RenamedMember.{RenamedMember}
use Rattle.refactor_members.proofs.judged_uses.is_renamed.Given as goal

-- no member that was passed is this one
abbrev pub invariant-loop-member : goal.invariant-loop-member
invariant-loop-member l =
    (x : RenamedMember) → Contains (take l.member-index l.m.members.now) x → x.declaration.now ≡ declaration_of (member_of l.old) → ⊥
