-- What the loop of `member_name::field_among` keeps.
use Rattle.refs_uses.proofs.member_name.field_among.Given as goal

-- each name that is found is returned
abbrev pub invariant-loop-k : goal.invariant-loop-k
invariant-loop-k l = Unit {0}
