-- The answers to the goals of `among::is_among`.
use Rattle.workspace_graph.proofs.Searched.{among}
use Rattle.workspace_graph.proofs.among.is_among.Goals as goal

pub returns : goal.returns
returns c = among c.args.numbers.now c.args.number c.binary_search.result c.is_ok.result c.requires c.binary_search.ensures.position c.is_ok.ensures.value
