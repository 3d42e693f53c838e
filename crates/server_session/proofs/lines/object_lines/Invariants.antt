-- The invariants of the loops of `lines::object_lines`.
use Rattle.std.proofs.Common.{◌≡◌, take}
use Rattle.server_session.specs.Listings.{object_lines}
use Rattle.server_session.proofs.lines.object_lines.Given as goal

-- the lines of the packages so far
abbrev pub invariant-loop-object : goal.invariant-loop-object
invariant-loop-object l = l.lines.items ≡ object_lines (take l.object-index l.objects)
