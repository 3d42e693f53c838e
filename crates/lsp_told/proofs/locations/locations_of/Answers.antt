-- The answers to the goals of `locations::locations_of`.
use Rattle.std.proofs.Common.{map, arith}
use Rattle.std.specs.Prelude.{option_map}
use Rattle.std.specs.Option.{option_copied}
use Rattle.serde_json.specs.View.{view}
use Rattle.serde_json.proofs.Views.{view-Array}
use Rattle.lsp_told.specs.Locations.{IsLocationUnless}
use Rattle.lsp_told.proofs.OneMore.{all_listed, listed_next}
use Rattle.lsp_told.proofs.locations.locations_of.Goals as goal

pub loop-place-preserved : goal.loop-place-preserved
loop-place-preserved c =
    listed_next (IsLocationUnless c.args.telling c.args.files.now (option_copied c.args.left_out)) c.args.places.now c.loop-place.place-index
    c.place-item.result (map view c.loop-place.values.items) (map view c.push_found.new.values.items) (option_map view c.in_ok-value.value)
    c.loop-place-test.true c.place-item.is c.in_ok-push_found.ensures c.in_ok-value.ensures c.loop-place.invariant

pub returns : goal.returns
returns c = (
  map view c.loop-place.values.items,
  all_listed (IsLocationUnless c.args.telling c.args.files.now (option_copied c.args.left_out)) c.args.places.now c.loop-place.place-index
      (map view c.loop-place.values.items) (omega (arith, c.loop-place-test.false)) c.loop-place.invariant,
  view-Array c.loop-place.values,
)
