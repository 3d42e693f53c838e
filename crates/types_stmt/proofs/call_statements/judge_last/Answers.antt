-- The answers to the goals of `call_statements::judge_last`.
use Rattle.std.proofs.Common.{◌∙◌}
use Rattle.go_ast.specs.View.{expr_view}
use Rattle.types_expr.specs.Judge.{judge}
use Rattle.types_expr.specs.WorldView.{world_of}
use Rattle.types_expr.specs.Found.{locals_of}
use Rattle.types_stmt.proofs.Chains.{chain_adds, chain_stands}
use Rattle.types_stmt.proofs.call_statements.judge_last.Goals as goal

pub returns-clause-found : goal.returns-clause-found
returns-clause-found c =
    chain_adds (world_of c.args.scope.world.now) (locals_of c.args.scope.locals.now) (expr_view c.args.first.now) c.args.before.now c.args.last.now
    c.first_token-start.ensures c.place_of-place.ensures c.place_after_links-behind.ensures
    (c.in_ok-called.ensures.after (judge (world_of c.args.scope.world.now) (locals_of c.args.scope.locals.now) (expr_view c.args.first.now))
    c.args.found.now c.in_ok-operand.ensures) c.in_ok-meaning.ensures

pub returns-clause-stands : goal.returns-clause-stands
returns-clause-stands c =
    c.calls_statement-stands.ensures
    ∙ chain_stands (world_of c.args.scope.world.now) (locals_of c.args.scope.locals.now) (expr_view c.args.first.now) c.args.before.now c.args.last.now
    c.first_token-start.ensures c.place_of-place.ensures
    (c.in_ok-called.ensures.after (judge (world_of c.args.scope.world.now) (locals_of c.args.scope.locals.now) (expr_view c.args.first.now))
    c.args.found.now c.in_ok-operand.ensures).meaning
