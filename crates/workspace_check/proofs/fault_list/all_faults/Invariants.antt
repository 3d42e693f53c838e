-- The invariants of the loops of `fault_list::all_faults`.
use Rattle.std.proofs.Common.{◌≡◌, take}
use Rattle.std.specs.List.{flat_map}
use Rattle.workspace_check.proofs.Listing.{faults_in}
use Rattle.workspace_check.proofs.fault_list.all_faults.Given as goal

abbrev pub invariant-loop-finding : goal.invariant-loop-finding
invariant-loop-finding l = l.found.items ≡ flat_map faults_in (take l.finding-index l.packages)
