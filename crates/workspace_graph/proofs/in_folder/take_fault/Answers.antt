-- The file of the number is taken out, or none.
use Rattle.std.proofs.Common.{◌≡◌, List, Some, slice_get, ap, sym, ◌∙◌}
use Rattle.workspace_graph.specs.FaultyFiles.{FaultyParts}
use Rattle.workspace_graph.specs.InFolder.{fault_path, fault_paths}
use Rattle.workspace_graph.proofs.UpdatedPackages.{number_within, one_out}
use Rattle.workspace_graph.proofs.in_folder.take_fault.Goals as goal

pub returns-in-Ok : goal.returns-in-Ok
returns-in-Ok c =
    let old = c.args.faulty.now.items in
    let at : slice_get (fault_paths old) c.in-Ok.number ≡ Some c.args.path.now =
    ap (λ (fs : List FaultyParts). slice_get (fault_paths fs) c.in-Ok.number) (sym c.deref.ensures.value) ∙ c.in-Ok.ensures in
    one_out fault_path c.args.path.now old c.remove.new.self.items c.in-Ok.number c.requires at
    (number_within fault_path old c.in-Ok.number c.args.path.now at)
    c.remove.ensures.items
