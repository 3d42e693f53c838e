-- The invariants of the loops of `places::chain_place`.
use Rattle.std.proofs.Common.{◌≡◌, drop}
use Rattle.types_expr.specs.Places.{place_of_links}
use Rattle.types_expr.specs.Lists.{links_in}
use Rattle.types_expr.proofs.places.chain_place.Given as goal

abbrev pub invariant-loop-link : goal.invariant-loop-link
invariant-loop-link l = place_of_links l.start l.place (links_in (drop l.link-index l.links)) ≡ place_of_links l.start l.start (links_in l.links)
