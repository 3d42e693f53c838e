-- The invariants of the loops of `lines::listing`.
use Rattle.std.proofs.Common.{◌≡◌, ◌++◌}
use Rattle.std.specs.List.{flat_map}
use Rattle.server_session.specs.Listings.{file_line, listing}
use Rattle.server_session.proofs.lines.listing.Given as goal

-- the lines so far, and those of the files that are left
abbrev pub invariant-loop-path : goal.invariant-loop-path
invariant-loop-path l = l.lines.items ++ flat_map (λ e. file_line e.0 e.1) l.path-iterator ≡ listing l.files
