-- The packages and their links are the graph of the files.
use Rattle.workspace_graph.proofs.graph.Graph.joined.Goals as goal

pub invariant_of-result : goal.invariant_of-result
invariant_of-result c = rw (c.in_ok-new.ensures.ok, c.in_ok-links.ensures) c.requires
