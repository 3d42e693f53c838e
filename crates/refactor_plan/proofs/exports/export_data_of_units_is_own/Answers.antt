-- The answers to the goals of `exports::export_data_of_units_is_own`.
use Rattle.refactor_plan.proofs.OwnExports.{export_data_own}
use Rattle.refactor_plan.proofs.exports.export_data_of_units_is_own.Goals as goal

pub returns : goal.returns
returns c = λ w p i object u. (u.known, export_data_own w u.known p i u.checked u.is_package u.export_data)
