-- What the loop of `own_names::add_listed_names` keeps.
use Rattle.std.proofs.Common.{take}
use Rattle.types_declared.specs.PackageView.{package_of}
use Rattle.refs_binding.specs.Binding.{DeclaresMember}
use Rattle.refs_binding.specs.Steps.{AddsPlaces, UsesIn}
use Rattle.refs_uses.specs.SoughtMembers.{IsPlaceOfSome}
use Rattle.refs_uses.proofs.own_names.add_listed_names.Given as goal

-- the names of the declarations that were passed were added
abbrev pub invariant-loop-declaration : goal.invariant-loop-declaration
invariant-loop-declaration l =
    AddsPlaces l.initial.found.items l.found.items
    (IsPlaceOfSome (take l.declaration-index l.set) (λ d. UsesIn (package_of l.unit) (λ u. DeclaresMember (package_of l.unit) u d)))
