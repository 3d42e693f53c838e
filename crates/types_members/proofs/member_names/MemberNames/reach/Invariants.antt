-- The invariants of the loops of `member_names::MemberNames::reach`.
use Rattle.std.proofs.Common.{ℕ, ◌≡◌, ◌+◌, ◌-◌, List, length}
use Rattle.types_members.specs.MemberNames.{is_noted}
use Rattle.types_members.proofs.member_names.MemberNames.reach.Given as goal

abbrev pub invariant-loop-alloc : goal.invariant-loop-alloc
invariant-loop-alloc l = (d : ℕ) (n : List ℕ) → is_noted l.self d n ≡ is_noted l.initial.self d n

abbrev pub decreases-loop-alloc : goal.decreases-loop-alloc
decreases-loop-alloc l = l.definition + 1 - length l.self.rows.items
