-- The package of the path, or none.
use Rattle.std.proofs.Common.{◌≡◌, Some, slice_get}
use Rattle.std.proofs.lemmas.Option.{slice_get_within, get_or_from_slice_get}
use Rattle.workspace_graph.specs.Graphs.{paths_of}
use Rattle.workspace_graph.proofs.Collected.{adds_one, adds_none}
use Rattle.workspace_graph.proofs.PackagePaths.{one_number}
use Rattle.workspace_graph.proofs.rows.add_path.Goals as goal

pub returns-in_ok-push : goal.returns-in_ok-push
returns-in_ok-push c =
    let paths = paths_of c.args.packages.now in
    let path = c.args.path.now in
    let at = c.in-Some.ensures in
    rw c.in_ok-push.ensures.items (adds_one (λ j. slice_get paths j ≡ Some path) c.args.row.now.items c.in-Some.number at
    (λ j here. one_number paths c.requires j c.in-Some.number path here at))

pub returns-in_default : goal.returns-in_default
returns-in_default c =
    let paths = paths_of c.args.packages.now in
    let path = c.args.path.now in
    adds_none (λ j. slice_get paths j ≡ Some path) c.args.row.now.items
    (λ j here. c.in_default.ensures (j, slice_get_within paths j path here, get_or_from_slice_get paths j path path here))
