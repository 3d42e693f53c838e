-- The answers to the goals of `sides::defined`.
use Rattle.std.proofs.Common.{List, ap, sym, ◌∙◌, ◌+◌, drop, map, subst}
use Rattle.std.proofs.Math.ListN.{drop_of_length-le}
use Rattle.std.proofs.lemmas.List.{map-append}
use Rattle.go_ast.specs.View.{expr_view, exprs_view}
use Rattle.types_expr.specs.WorldView.{world_of}
use Rattle.types_expr.specs.Found.{locals_of}
use Rattle.types_stmt.specs.Sides.{Target, defined, defined_one}
use Rattle.types_stmt.specs.View.{target_of}
use Rattle.types_stmt.proofs.LoopProgress.{GrownLefts, grown_lefts_step, grown_lefts_end}
use Rattle.types_expr.proofs.Items.{next_item}
use Rattle.types_stmt.proofs.ListEquations.{defined_step, defined_end}
use Rattle.types_stmt.proofs.sides.defined.Goals as goal

pub loop-item-preserved : goal.loop-item-preserved
loop-item-preserved c =
    subst (λ (ts : List Target). GrownLefts (defined (world_of c.args.scope.world.now) (locals_of c.args.scope.locals.now)
    (exprs_view (drop (c.loop-item.item-index + 1) c.args.exprs.now)))
    (defined (world_of c.args.scope.world.now) (locals_of c.args.scope.locals.now) (exprs_view c.args.exprs.now)) c.args.found.now c.defined_one.new.found ts)
    (sym (ap (map target_of) c.in_ok-push.ensures.items ∙ map-append target_of c.loop-item.targets.items _))
    (grown_lefts_step (defined_one (world_of c.args.scope.world.now) (locals_of c.args.scope.locals.now) (expr_view c.item-item.result.value))
    c.loop-item.invariant c.in_ok-target.ensures
    (ap (λ xs. defined (world_of c.args.scope.world.now) (locals_of c.args.scope.locals.now) (exprs_view xs))
    (next_item _ _ _ c.loop-item-test.true c.item-item.is)
    ∙ defined_step (world_of c.args.scope.world.now) (locals_of c.args.scope.locals.now) c.item-item.result _))

pub returns : goal.returns
returns c =
    grown_lefts_end c.loop-item.invariant
    (ap (λ xs. defined (world_of c.args.scope.world.now) (locals_of c.args.scope.locals.now) (exprs_view xs)) (drop_of_length-le _ c.loop-item-test.false)
    ∙ defined_end (world_of c.args.scope.world.now) (locals_of c.args.scope.locals.now))
