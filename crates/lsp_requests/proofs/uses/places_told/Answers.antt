-- The answers to the goals of `uses::places_told`.
use Rattle.std.proofs.Common.{subst}
use Rattle.std.specs.Option.{option_copied}
use Rattle.serde_json.specs.View.{view}
use Rattle.lsp_told.specs.Locations.{ListsLocations}
use Rattle.lsp_requests.proofs.uses.places_told.Goals as goal

pub returns : goal.returns
returns c =
    subst (λ files. ListsLocations c.args.sight.telling files (option_copied c.args.left_out) c.args.places.now (view c.in_ok-told.told))
    c.files.ensures c.in_ok-told.ensures
