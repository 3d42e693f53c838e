-- The answers to the goals of `laws::fault_lists_are_unique`.
use Rattle.workspace_check.proofs.OneList.{one_list, one_whole_list}
use Rattle.workspace_check.proofs.laws.fault_lists_are_unique.Goals as goal

pub returns-clause-of_package : goal.returns-clause-of_package
returns-clause-of_package c = λ w p a b h k. one_list w p a b h k

pub returns-clause-of_workspace : goal.returns-clause-of_workspace
returns-clause-of_workspace c = λ w a b h k. one_whole_list w a b h k
