-- The invariants of the loops of `qualified_uses::add_package_uses`.
use Rattle.std.proofs.Common.{◌≡◌}
use Rattle.types_declared.specs.PackageView.{package_of}
use Rattle.types_info.specs.QualifiedIdentifiers.{IsQualifiedByPath}
use Rattle.refs_binding.specs.Identifiers.{BeginsAt}
use Rattle.refs_binding.specs.Steps.{AddsPlaces}
use Rattle.refs_binding.proofs.Adding.{Below}
use Rattle.refs_uses.proofs.qualified_uses.add_package_uses.Given as goal

-- the identifiers that were passed were added
abbrev pub invariant-loop-u : goal.invariant-loop-u
invariant-loop-u l =
    AddsPlaces l.initial.found.items l.found.items
    (Below (λ u place. BeginsAt (package_of l.unit) place.path place.offset u ×
    (IsQualifiedByPath (package_of l.unit) u l.path × ((package_of l.unit).names u ≡ l.name))) l.u)
