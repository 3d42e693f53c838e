-- The file is put where the one with its path was.
use Rattle.std.proofs.Common.{sym}
use Rattle.workspace_graph.specs.InFolder.{fault_path}
use Rattle.workspace_graph.proofs.UpdatedPackages.{puts_at}
use Rattle.workspace_graph.proofs.in_folder.put_fault.Goals as goal

pub returns : goal.returns
returns c = puts_at fault_path c.path.result.now c.args.file c.args.faulty.now.items c.take_fault-place.new.faulty.items c.insert.new.self.items
    c.take_fault-place.result (sym c.path.ensures) c.take_fault-place.ensures c.in_ok-insert.ensures.items
