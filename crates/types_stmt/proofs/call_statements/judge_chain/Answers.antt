-- The answers to the goals of `call_statements::judge_chain`.
use Rattle.std.proofs.Common.{◌∙◌, ap, sym}
use Rattle.std.proofs.lemmas.List.{nil_from_length}
use Rattle.go_ast.specs.Tree.{Chain}
use Rattle.go_ast.specs.View.{expr_view}
use Rattle.types_expr.specs.Lists.{links_in}
use Rattle.types_expr.specs.Judge.{judge}
use Rattle.types_expr.specs.WorldView.{world_of}
use Rattle.types_expr.specs.Found.{locals_of}
use Rattle.types_stmt.specs.Simple.{is_statement}
use Rattle.types_stmt.proofs.Chains.{bare_adds, bare_stands}
use Rattle.types_expr.proofs.Equations.{ok_map}
use Rattle.types_stmt.proofs.LoopProgress.{adds_as}
use Rattle.types_stmt.proofs.call_statements.judge_chain.Goals as goal

pub returns-in-Some-clause-found : goal.returns-in-Some-clause-found
returns-in-Some-clause-found c =
    ok_map c.judge_last.result (λ a q. adds_as q (ap (λ x.
    judge (world_of c.args.scope.world.now) (locals_of c.args.scope.locals.now) (Chain (expr_view c.args.first.now) (links_in x)))
    (sym c.in-Some.ensures.cases.0))) c.judge_last.ensures.found

pub returns-in-Some-clause-stands : goal.returns-in-Some-clause-stands
returns-in-Some-clause-stands c =
    ok_map c.judge_last.result (λ a q. q ∙ ap (λ x. is_statement (world_of c.args.scope.world.now) (locals_of c.args.scope.locals.now)
    (Chain (expr_view c.args.first.now) (links_in x))) (sym c.in-Some.ensures.cases.0)) c.judge_last.ensures.stands

pub returns-in_ok-meaning-in-None-clause-found : goal.returns-in_ok-meaning-in-None-clause-found
returns-in_ok-meaning-in-None-clause-found c =
    bare_adds (world_of c.args.scope.world.now) (locals_of c.args.scope.locals.now) (expr_view c.args.first.now) c.args.links.now
    (nil_from_length c.args.links.now c.in-None.ensures.cases) c.in_ok-meaning-in-None.ensures

pub returns-in_ok-meaning-in-None-clause-stands : goal.returns-in_ok-meaning-in-None-clause-stands
returns-in_ok-meaning-in-None-clause-stands c =
    bare_stands (world_of c.args.scope.world.now) (locals_of c.args.scope.locals.now) (expr_view c.args.first.now) c.args.links.now
    (nil_from_length c.args.links.now c.in-None.ensures.cases)
