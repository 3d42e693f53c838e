-- The paths still rise.
use Rattle.base_files.specs.Workspace.{path_cmp}
use Rattle.base_chunks.proofs.Standing.{rises}
use Rattle.base_files.proofs.Standing.{stays_sorted}
use Rattle.base_files.proofs.table.PathTable.put.Goals as goal

pub put-requires : goal.put-requires
put-requires g c = rises path_cmp c.self.inside.entries.items c.self.invariant

pub invariant_of-self-2 : goal.invariant_of-self-2
invariant_of-self-2 g c = stays_sorted c.args.path c.args.value c.self.inside.entries.items c.put.new.entries.items c.in_ok-put.ensures.ok c.self.invariant
