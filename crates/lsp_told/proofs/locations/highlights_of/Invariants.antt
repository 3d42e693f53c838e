-- The invariants of the loops of `locations::highlights_of`.
use Rattle.std.proofs.Common.{◌≡◌, map, take}
use Rattle.std.specs.List.{flat_map}
use Rattle.serde_json.specs.View.{view}
use Rattle.lsp_told.specs.Locations.{highlights_at}
use Rattle.lsp_told.proofs.locations.highlights_of.Given as goal

-- the highlights of the places so far
abbrev pub invariant-loop-place : goal.invariant-loop-place
invariant-loop-place l =
    map view l.values.items ≡ flat_map (highlights_at l.telling l.files l.at.path) (take l.place-index l.places)
