-- The answers to the goals of `moving::move_between`.
use Rattle.refactor_preserve.specs.Planned.{change_in}
use Rattle.lsp_requests.proofs.moving.move_between.Goals as goal

pub returns-clause-told : goal.returns-clause-told
returns-clause-told g c = (change_in c.move_plan-planned.result, c.move_plan-planned.ensures.planned, c.move_told.ensures)
