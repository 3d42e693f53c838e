-- The answers to the goals of `recut::renamed_fault_is_moved`.
use Rattle.go_respelled.proofs.Faults.{fault_moves}
use Rattle.go_respelled.proofs.recut.renamed_fault_is_moved.Goals as goal

pub returns : goal.returns
returns c = fault_moves
