-- The invariants of the loops of `used_member::declaration_among`.
use Rattle.std.specs.Prelude.{map}
use Rattle.types_expr.specs.Found.{use_of}
use Rattle.types_declared.specs.PackageView.{package_of}
use Rattle.refs_binding.specs.Members.{definitions_seen}
use Rattle.refs_binding.proofs.MemberPlaces.{NoneBelow}
use Rattle.refs_lookup.proofs.used_member.declaration_among.Given as goal

-- none of the uses so far is at the token
abbrev pub invariant-loop-k : goal.invariant-loop-k
invariant-loop-k l = NoneBelow (definitions_seen l.unit l.own) (package_of l.unit) l.file l.token (map use_of l.uses) l.k
