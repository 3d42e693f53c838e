-- The answers to the goals of `places::read_position`.
use Rattle.tool_text.specs.Places.{HasNoPosition, IsPositionWord}
use Rattle.tool_text.proofs.Colons.{colon_wanted, no_column, no_line, when_none}
use Rattle.tool_text.proofs.places.read_position.Goals as goal

pub returns-in_err-line : goal.returns-in_err-line
returns-in_err-line c =
    when_none (HasNoPosition c.args.text.now) (IsPositionWord c.args.text.now) c.from_residual.result c.from_residual.ensures
    (colon_wanted c.args.text.now c.in_err-line.ensures)

pub returns-in_err-line-2 : goal.returns-in_err-line-2
returns-in_err-line-2 c =
    when_none (HasNoPosition c.args.text.now) (IsPositionWord c.args.text.now) c.from_residual-in_err-line-2.result c.from_residual-in_err-line-2.ensures
    (no_line c.args.text.now _ _ c.in_ok-line.ensures.0 c.in_ok-line.ensures.1 c.in_err-line-2.ensures)

pub returns-in_err-column : goal.returns-in_err-column
returns-in_err-column c =
    when_none (HasNoPosition c.args.text.now) (IsPositionWord c.args.text.now) c.from_residual-in_err-column.result c.from_residual-in_err-column.ensures
    (no_column c.args.text.now _ _ c.in_ok-line.ensures.0 c.in_ok-line.ensures.1 c.in_err-column.ensures)
