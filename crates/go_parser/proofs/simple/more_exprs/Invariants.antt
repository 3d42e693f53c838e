-- The invariants of the loops of `simple::more_exprs`.
use Rattle.std.proofs.Common.{◌∷◌, [], length, ◌+◌}
use Rattle.go_ast.specs.Grammar.{A, Expression, MoreExpressions, in_head}
use Rattle.go_parser.specs.Spelling.{exprs_spelled}
use Rattle.go_parser.specs.TokenClasses.{setting_of}
use Rattle.go_parser.specs.Listed.{IsListed}
use Rattle.go_ast.specs.View.{expr_item_view}
use Rattle.go_ast.specs.WellFormed.{IsExprIn}
use Rattle.go_parser.proofs.StatementSteps.{flag, LeadsFrom}
use Rattle.go_parser.proofs.Lists.{items_rest}
use Rattle.go_parser.proofs.simple.more_exprs.Given as goal

abbrev pub invariant-exprs : goal.invariant-exprs
invariant-exprs l = record {
  leads : LeadsFrom (exprs_spelled l.fn.begun.items)
      (A (Expression (in_head (setting_of l.setting))) ∷ A (MoreExpressions (in_head (setting_of l.setting))) ∷ [])
      (items_rest (A (Expression (in_head (setting_of l.setting))) ∷ A (MoreExpressions (in_head (setting_of l.setting))) ∷ []) l.more)
      (exprs_spelled l.exprs.items) l.depth l.fn.tokens l.depth l.rest;
  formed : IsListed (IsExprIn (in_head (setting_of l.setting))) expr_item_view l.more l.exprs.items;
}

abbrev pub decreases-exprs : goal.decreases-exprs
decreases-exprs l = length l.rest + flag l.more
