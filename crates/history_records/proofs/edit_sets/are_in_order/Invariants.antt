-- All edits are in order exactly if those that are left are.
use Rattle.history_records.proofs.Sets.{IsOrderLeft}
use Rattle.history_records.proofs.edit_sets.are_in_order.Given as goal

abbrev pub invariant-loop-edit : goal.invariant-loop-edit
invariant-loop-edit l = IsOrderLeft l.edits l.at l.edit-index
