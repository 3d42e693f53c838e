-- The invariants of the loops of `named::name_identifiers`.
use Rattle.std.proofs.Common.{◌≡◌, map}
use Rattle.go_scope.specs.IdentifierViews.{site_of}
use Rattle.go_scope.specs.Named.{name_given}
use Rattle.go_scope.proofs.NamedSites.{named_below}
use Rattle.go_scope.proofs.named.name_identifiers.Given as goal

abbrev pub invariant-loop-u : goal.invariant-loop-u
invariant-loop-u l = map site_of l.identifiers.items ≡ named_below (name_given l.names) l.u (map site_of l.initial.identifiers.items)
