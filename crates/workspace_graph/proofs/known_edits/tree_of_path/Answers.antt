-- The package of the path's folder has the tree.
use Rattle.std.proofs.Common.{length, refl}
use Rattle.std.proofs.lemmas.Option.{IfSome_then, slice_get_read}
use Rattle.workspace_graph.proofs.Numbers.{path_of_package}
use Rattle.workspace_graph.proofs.SetFiles.{there}
use Rattle.workspace_graph.proofs.UpdatedPackages.{number_within}
use Rattle.workspace_graph.proofs.known_edits.tree_of_path.Goals as goal

pub returns-in-Some : goal.returns-in-Some
returns-in-Some c =
    let packages = c.args.packages.now in
    let n = c.in-Some.number in
    let p = c.index-packages-number.result in
    let within = number_within path_of_package packages n c.folder.result.now c.in-Some.ensures in
    let at = slice_get_read packages (length packages) n p refl within c.index-packages-number.is in
    IfSome_then c.tree_at_path.result c.tree_at_path.ensures (λ tree is. (p, there packages n p at, is.0, is.1))
