-- Each path so far comes before the next one.
use Rattle.base_edits.specs.EditSet.{paths_of}
use Rattle.history_records.proofs.Sets.{RisesTo}
use Rattle.history_records.proofs.edit_sets.are_by_path.Given as goal

abbrev pub invariant-loop-i : goal.invariant-loop-i
invariant-loop-i l = RisesTo (paths_of l.changed) l.i
