-- The answers to the goals of `call_statements::place_after_links`.
use Rattle.types_stmt.proofs.Chains.{no_links}
use Rattle.types_stmt.proofs.call_statements.place_after_links.Goals as goal

pub returns-in-None : goal.returns-in-None
returns-in-None c = no_links c.args.start c.args.place c.args.links.now c.in-None.ensures.cases
