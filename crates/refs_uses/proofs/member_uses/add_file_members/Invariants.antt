-- The invariants of the loops of `member_uses::add_file_members`.
use Rattle.std.specs.Prelude.{map}
use Rattle.types_expr.specs.Found.{use_of}
use Rattle.types_declared.specs.PackageView.{package_of}
use Rattle.refs_binding.specs.Members.{definitions_seen, IsMemberUseAt}
use Rattle.refs_binding.specs.Steps.{AddsPlaces}
use Rattle.refs_binding.proofs.Adding.{Below}
use Rattle.refs_uses.proofs.member_uses.add_file_members.Given as goal

-- the member uses that were passed were added
abbrev pub invariant-loop-k : goal.invariant-loop-k
invariant-loop-k l =
    AddsPlaces l.initial.found.items l.found.items (Below (IsMemberUseAt (definitions_seen l.of.unit l.of.own.now) (package_of l.of.unit) l.file l.declaration
    (map use_of l.uses)) l.k)
