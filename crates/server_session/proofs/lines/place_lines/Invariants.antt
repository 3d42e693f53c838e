-- The invariants of the loops of `lines::place_lines`.
use Rattle.std.proofs.Common.{◌≡◌, take}
use Rattle.server_session.specs.Listings.{place_lines}
use Rattle.server_session.proofs.lines.place_lines.Given as goal

-- the lines of the places so far
abbrev pub invariant-loop-place : goal.invariant-loop-place
invariant-loop-place l = l.lines.items ≡ place_lines (take l.place-index l.places)
