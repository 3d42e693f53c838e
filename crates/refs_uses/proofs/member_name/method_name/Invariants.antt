-- What the loop of `member_name::method_name` keeps.
use Rattle.refs_uses.proofs.member_name.method_name.Given as goal

-- the name is looked up where it is found
abbrev pub invariant-loop-name : goal.invariant-loop-name
invariant-loop-name l = Unit {0}
