-- The invariants of the loops of `member_uses::add_all_members`.
use Rattle.types_declared.specs.PackageView.{package_of}
use Rattle.refs_binding.specs.Members.{definitions_seen}
use Rattle.refs_binding.specs.Steps.{AddsPlaces}
use Rattle.refs_binding.proofs.Adding.{Below}
use Rattle.refs_binding.proofs.MemberPlaces.{IsFileUse}
use Rattle.refs_uses.proofs.member_uses.add_all_members.Given as goal

-- the member uses of the files that were passed were added
abbrev pub invariant-loop-file : goal.invariant-loop-file
invariant-loop-file l =
    AddsPlaces l.initial.found.items l.found.items (Below (IsFileUse (definitions_seen l.of.unit l.of.own.now) (package_of l.of.unit) l.declaration
    l.of.members.now) l.file)
