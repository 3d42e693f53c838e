-- What the loop of `lookup::renamed_field` keeps.
use Rattle.std.proofs.Common.{ℕ, take}
use Rattle.std.specs.Prelude.{Contains}
use Rattle.refactor_members.specs.Naming.{IsOwnField}
use Rattle.refactor_members.specs.declared.member_rename.RenamedMember.{RenamedMember}
use Rattle.refactor_members.proofs.lookup.renamed_field.Given as goal

-- no member that was passed is a field of the type definition
abbrev pub invariant-loop-member : goal.invariant-loop-member
invariant-loop-member l =
    (x : RenamedMember) → Contains (take l.member-index l.m.members.now) x → (rank : ℕ) × IsOwnField l.of x rank → ⊥
