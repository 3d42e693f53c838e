-- The invariants of the loops of `locations::locations_of`.
use Rattle.std.proofs.Common.{map, take}
use Rattle.std.specs.Option.{option_copied}
use Rattle.serde_json.specs.View.{view}
use Rattle.lsp_told.specs.Listed.{AreCollected}
use Rattle.lsp_told.specs.Locations.{IsLocationUnless}
use Rattle.lsp_told.proofs.locations.locations_of.Given as goal

-- the locations of the places so far
abbrev pub invariant-loop-place : goal.invariant-loop-place
invariant-loop-place l =
    AreCollected (IsLocationUnless l.telling l.files (option_copied l.left_out)) (take l.place-index l.places) (map view l.values.items)
