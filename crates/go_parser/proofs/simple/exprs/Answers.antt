-- The answers to the goals of `simple::exprs`.
use Rattle.go_parser.proofs.StatementSteps.{continues_nothing}
use Rattle.go_parser.proofs.ListedSteps.{listed_none}
use Rattle.go_parser.proofs.SpelledSimple.{exprs_none}
use Rattle.go_parser.proofs.simple.exprs.Goals as goal

pub returns-clause-exact : goal.returns-clause-exact
returns-clause-exact c = continues_nothing _ _ _ _ _ _ c.more_exprs.result (exprs_none _ c.new.ensures.items) c.more_exprs.ensures.exact

pub more_exprs-requires : goal.more_exprs-requires
more_exprs-requires c = listed_none _ _ _ c.new.ensures.items

pub returns-clause-formed : goal.returns-clause-formed
returns-clause-formed c = c.more_exprs.ensures.formed
