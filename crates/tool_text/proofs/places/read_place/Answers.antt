-- The answers to the goals of `places::read_place`.
use Rattle.tool_text.specs.Places.{HasNoPlace, IsPlaceWord}
use Rattle.tool_text.proofs.Colons.{colon_wanted_too, no_spot_behind, when_none}
use Rattle.tool_text.proofs.places.read_place.Goals as goal

pub returns-in_err-path : goal.returns-in_err-path
returns-in_err-path c =
    when_none (HasNoPlace c.args.word.now) (IsPlaceWord c.args.word.now) c.from_residual.result c.from_residual.ensures
    (colon_wanted_too c.args.word.now c.in_err-path.ensures)

pub returns-in_err-spot : goal.returns-in_err-spot
returns-in_err-spot c =
    when_none (HasNoPlace c.args.word.now) (IsPlaceWord c.args.word.now) c.from_residual-in_err-spot.result c.from_residual-in_err-spot.ensures
    (no_spot_behind c.args.word.now _ _ c.in_ok-path.ensures.0 c.in_ok-path.ensures.1 c.in_err-spot.ensures)
