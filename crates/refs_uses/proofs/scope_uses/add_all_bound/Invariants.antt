-- The invariants of the loops of `scope_uses::add_all_bound`.
use Rattle.go_scope.specs.Bindings.{IsBoundTo}
use Rattle.types_declared.specs.PackageView.{package_of}
use Rattle.refs_binding.specs.Identifiers.{BeginsAt}
use Rattle.refs_binding.specs.Steps.{AddsPlaces}
use Rattle.refs_binding.proofs.Adding.{Below}
use Rattle.refs_uses.proofs.scope_uses.add_all_bound.Given as goal

-- the identifiers that were passed were added
abbrev pub invariant-loop-u : goal.invariant-loop-u
invariant-loop-u l =
    AddsPlaces l.initial.found.items l.found.items (Below (λ u place. BeginsAt (package_of l.unit) place.path place.offset u ×
    IsBoundTo (package_of l.unit).layout (package_of l.unit).names u l.d) l.u)
