-- The invariants of the loops of `statements::statement`.
use Rattle.std.proofs.Common.{◌∷◌, ◌<◌, ◌+◌, ◌*◌, [], length}
use Rattle.go_ast.specs.Grammar.{A, Statement, MoreStatements}
use Rattle.go_parser.specs.Parsing.{Leads}
use Rattle.go_ast.specs.Flatten.{all_tokens}
use Rattle.go_ast.specs.WellFormed.{IsStatement}
use Rattle.go_parser.specs.Listed.{IsListed}
use Rattle.go_parser.proofs.StatementSteps.{flag}
use Rattle.go_parser.proofs.FormedStatements.{block_item_view}
use Rattle.go_parser.proofs.Lists.{items_rest}
use Rattle.go_parser.proofs.SpelledStatements.{block_item_spelled}
use Rattle.go_parser.proofs.statements.+statement.Given as goal

abbrev pub decreases-block : goal.decreases-block
decreases-block l = 8 * length l.tokens.now

abbrev pub decreases-else_part : goal.decreases-else_part
decreases-else_part l = 8 * length l.tokens.now + 1

abbrev pub decreases-for_stmt : goal.decreases-for_stmt
decreases-for_stmt l = 8 * length l.tokens.now + 1

abbrev pub decreases-branches : goal.decreases-branches
decreases-branches l = 8 * length l.tokens.now + 2

abbrev pub decreases-statement : goal.decreases-statement
decreases-statement l = 8 * length l.tokens.now + 2

abbrev pub decreases-if_stmt : goal.decreases-if_stmt
decreases-if_stmt l = 8 * length l.tokens.now + 3

abbrev pub invariant-block-statements : goal.invariant-block-statements
invariant-block-statements l = record {
  leads : Leads (A Statement ∷ A MoreStatements ∷ []) (items_rest (A Statement ∷ A MoreStatements ∷ []) l.more)
      (all_tokens block_item_spelled l.statements.items) l.inside l.initial.rest l.inside l.rest;
  shorter : length l.rest < length l.fn.tokens;
  formed : IsListed IsStatement block_item_view l.more l.statements.items;
}

abbrev pub decreases-block-statements : goal.decreases-block-statements
decreases-block-statements l = length l.rest + flag l.more
