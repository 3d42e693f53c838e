-- The answers to the goals of `quoting::rest_of`.
use Rattle.refactor_move.proofs.PathParts.{rest_found}
use Rattle.refactor_move.proofs.quoting.rest_of.Goals as goal

pub returns : goal.returns
returns c = rest_found c.args.front.now c.args.text.now c.strip_prefix.result c.strip_prefix.ensures.cases
