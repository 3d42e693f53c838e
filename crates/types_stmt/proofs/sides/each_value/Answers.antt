-- The answers to the goals of `sides::each_value`.
use Rattle.types_expr.specs.WorldView.{world_of}
use Rattle.types_expr.specs.Found.{locals_of}
use Rattle.types_expr.proofs.Equations.{ok_map}
use Rattle.types_stmt.proofs.LoopProgress.{list_as}
use Rattle.types_stmt.proofs.ListEquations.{arguments_each}
use Rattle.types_stmt.proofs.sides.each_value.Goals as goal

pub returns : goal.returns
returns c =
    ok_map c.arguments.result (λ vs a. list_as a (arguments_each (world_of c.args.scope.world.now) (locals_of c.args.scope.locals.now) c.args.exprs.now))
    c.arguments.ensures
