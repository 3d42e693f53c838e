-- The packages and their rows are the graph of the files.
use Rattle.std.proofs.Common.{List, ap, subst, ◌∙◌}
use Rattle.std.specs.List.{AllZip}
use Rattle.workspace_graph.specs.Graphs.{paths_of}
use Rattle.workspace_graph.specs.Rows.{IsRow}
use Rattle.workspace_graph.specs.declared.package.ParsedPackage.{ParsedPackage}
use Rattle.workspace_graph.proofs.PackagePaths.{paths_sorted}
use Rattle.workspace_graph.proofs.Linked.{are_linked, graph_is}
use Rattle.workspace_graph.proofs.graph.Graph.made.Goals as goal

pub rows-requires : goal.rows-requires
rows-requires c =
    let paths = ap paths_of c.deref.ensures.value ∙ c.requires.paths in
    rw paths (paths_sorted c.args.files)

pub of-requires : goal.of-requires
of-requires c =
    let ps = c.args.packages.items in
    let rows = subst (λ (qs : List ParsedPackage). AllZip (λ p row. IsRow (paths_of qs) p.trees.items row) qs c.in_ok-rows.rows) c.deref.ensures.value
    c.in_ok-rows.ensures in
    are_linked c.args.files ps c.in_ok-rows.rows c.requires.paths c.requires.files rows

pub invariant_of-result : goal.invariant_of-result
invariant_of-result c =
    let ps = c.args.packages.items in
    let rows = subst (λ (qs : List ParsedPackage). AllZip (λ p row. IsRow (paths_of qs) p.trees.items row) qs c.in_ok-rows.rows) c.deref.ensures.value
    c.in_ok-rows.ensures in
    rw (c.in_ok-new.ensures.ok, c.in_ok-links.ensures) (graph_is c.args.files ps c.in_ok-rows.rows c.requires.paths c.requires.files rows)
