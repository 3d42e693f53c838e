-- The answers to the goals of `sides::assigned_one`.
use Rattle.std.proofs.Common.{[], ◌∷◌, ap, sym, ◌∙◌}
use Rattle.go_ast.specs.View.{expr_view}
use Rattle.types_expr.specs.Types.{Broken}
use Rattle.types_expr.specs.WorldView.{world_of}
use Rattle.types_expr.specs.Found.{locals_of}
use Rattle.types_stmt.specs.Sides.{Takes, Wants, own_type, judge_operand, assigned_one}
use Rattle.types_stmt.specs.View.{target_of}
use Rattle.types_stmt.proofs.Cases.{assigned_default}
use Rattle.types_stmt.proofs.LoopProgress.{adds_left, adds_no_left, lefts_as}
use Rattle.types_stmt.proofs.sides.assigned_one.Goals as goal

pub returns-in-Blank : goal.returns-in-Blank
unfolding expr_view assigned_one target_of
returns-in-Blank c = lefts_as (adds_no_left Takes Broken c.args.found.now)
    (ap (λ e. assigned_one (world_of c.args.scope.world.now) (locals_of c.args.scope.locals.now) (expr_view e)) (sym c.in-Blank.is))

pub returns-in_ok-meaning-in_default : goal.returns-in_ok-meaning-in_default
unfolding target_of
returns-in_ok-meaning-in_default c =
    lefts_as (adds_left (Wants (own_type (judge_operand (world_of c.args.scope.world.now) (locals_of c.args.scope.locals.now)
    (expr_view c.args.expr.now)).meaning)) c.in_ok-meaning-in_default.ensures
    (ap (λ t. Wants t ∷ []) (c.own_type.ensures ∙ ap own_type c.in_ok-meaning-in_default.ensures.meaning)))
    (assigned_default (world_of c.args.scope.world.now) (locals_of c.args.scope.locals.now) c.args.expr.now c.in_default.not-Blank)
