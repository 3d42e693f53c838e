-- The answers to the goals of `places::read_spot`.
use Rattle.tool_text.specs.Places.{HasNoSpot, IsSpotWord}
use Rattle.tool_text.proofs.Colons.{no_offset, no_spot, when_none}
use Rattle.tool_text.proofs.places.read_spot.Goals as goal

pub returns-in_err-offset-in-Some : goal.returns-in_err-offset-in-Some
returns-in_err-offset-in-Some c =
    when_none (HasNoSpot c.args.text.now) (IsSpotWord c.args.text.now) c.from_residual.result c.from_residual.ensures
    (no_offset c.args.text.now _ c.in-Some.ensures c.in_err-offset-in-Some.ensures)

pub returns-in_err-position-in-None : goal.returns-in_err-position-in-None
returns-in_err-position-in-None c =
    when_none (HasNoSpot c.args.text.now) (IsSpotWord c.args.text.now) c.from_residual-in_err-position-in-None.result
    c.from_residual-in_err-position-in-None.ensures (no_spot c.args.text.now c.in-None.ensures c.in_err-position-in-None.ensures)
