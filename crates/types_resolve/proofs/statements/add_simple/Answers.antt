-- The answers to the goals of `statements::add_simple`.
use Rattle.std.proofs.Common.{[], ◌∷◌, ◌∙◌, ap, sym}
use Rattle.types_declared.proofs.ItemFaults.{each_none, each_as, call_each}
use Rattle.go_ast.specs.View.{exprs_view}
use Rattle.go_ast.specs.FileView.{simple_view}
use Rattle.types_declared.specs.Laid.{laid_in}
use Rattle.types_resolve.specs.StatementMarks.{Defines, IsFaultOfMark, simple_marks}
use Rattle.types_resolve.proofs.statements.add_simple.Goals as goal

pub returns-in-Define : goal.returns-in-Define
unfolding simple_marks simple_view
returns-in-Define c =
    call_each (IsFaultOfMark (laid_in c.args.scope.table.now) c.args.scope.rank) c.args.found.now.items c.add_define.new.found.items
    (Defines (exprs_view c.deref.result.now) c.in-Define.at ∷ []) (simple_marks (simple_view c.args.statement.now)) c.add_define.result c.add_define.ensures
    (ap (λ z. Defines (exprs_view z) c.in-Define.at ∷ []) c.deref.ensures.value ∙ ap (λ v. simple_marks (simple_view v)) (sym c.in-Define.is))

pub returns-in-Expr : goal.returns-in-Expr
unfolding simple_marks simple_view
returns-in-Expr c =
    each_as (IsFaultOfMark (laid_in c.args.scope.table.now) c.args.scope.rank) c.args.found.now.items c.args.found.now.items [] _
    (each_none (IsFaultOfMark (laid_in c.args.scope.table.now) c.args.scope.rank) c.args.found.now.items)
    (ap (λ v. simple_marks (simple_view v)) (sym c.in-Expr.is))

pub returns-in-Step : goal.returns-in-Step
unfolding simple_marks simple_view
returns-in-Step c =
    each_as (IsFaultOfMark (laid_in c.args.scope.table.now) c.args.scope.rank) c.args.found.now.items c.args.found.now.items [] _
    (each_none (IsFaultOfMark (laid_in c.args.scope.table.now) c.args.scope.rank) c.args.found.now.items)
    (ap (λ v. simple_marks (simple_view v)) (sym c.in-Step.is))

pub returns-in-Update : goal.returns-in-Update
unfolding simple_marks simple_view
returns-in-Update c =
    each_as (IsFaultOfMark (laid_in c.args.scope.table.now) c.args.scope.rank) c.args.found.now.items c.args.found.now.items [] _
    (each_none (IsFaultOfMark (laid_in c.args.scope.table.now) c.args.scope.rank) c.args.found.now.items)
    (ap (λ v. simple_marks (simple_view v)) (sym c.in-Update.is))

pub returns-in-Assign : goal.returns-in-Assign
unfolding simple_marks simple_view
returns-in-Assign c =
    each_as (IsFaultOfMark (laid_in c.args.scope.table.now) c.args.scope.rank) c.args.found.now.items c.args.found.now.items [] _
    (each_none (IsFaultOfMark (laid_in c.args.scope.table.now) c.args.scope.rank) c.args.found.now.items)
    (ap (λ v. simple_marks (simple_view v)) (sym c.in-Assign.is))
