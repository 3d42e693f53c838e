-- The invariants of the loops of `identifier_at_byte::identifier_at`.
use Rattle.std.proofs.Common.{ℕ, ◌<◌}
use Rattle.types_declared.specs.PackageView.{package_of}
use Rattle.refs_binding.specs.Identifiers.{HoldsByte}
use Rattle.refs_lookup.proofs.identifier_at_byte.identifier_at.Given as goal

abbrev pub invariant-loop-u : goal.invariant-loop-u
invariant-loop-u l = (v : ℕ) → v < l.u → HoldsByte (package_of l.unit) l.path l.offset v → ⊥
