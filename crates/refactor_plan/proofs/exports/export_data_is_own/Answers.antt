-- The answers to the goals of `exports::export_data_is_own`.
use Rattle.refactor_plan.proofs.OwnExports.{export_data_own}
use Rattle.refactor_plan.proofs.exports.export_data_is_own.Goals as goal

pub returns : goal.returns
returns c = λ w known p i h. export_data_own w known p i h.checked h.is_package h.is_export_data
