-- The answers to the goals of `simple::simple`.
use Rattle.std.proofs.Common.{ap, sym, ◌∙◌}
use Rattle.std.proofs.lemmas.Result.{on_ok_weaker}
use Rattle.go_ast.specs.View.{expr_view}
use Rattle.go_ast.specs.FileView.{simple_view}
use Rattle.types_stmt.specs.Simple.{binary_of}
use Rattle.build_object.specs.Expressions.{address_lines, value_lines}
use Rattle.build_object.specs.Lines.{pops}
use Rattle.build_object.specs.Operands.{value_count}
use Rattle.build_object.specs.SourceView.{source_of}
use Rattle.build_object.specs.Statements.{simple_lines, update_lines}
use Rattle.build_object.proofs.Putting.{puts_as, puts_then}
use Rattle.build_object.proofs.Values.{assigned, defined}
use Rattle.build_object.proofs.simple.simple.Goals as goal

pub returns-in_ok-put_pops-in-Expr : goal.returns-in_ok-put_pops-in-Expr
unfolding simple_lines simple_view
returns-in_ok-put_pops-in-Expr c = on_ok_weaker c.operand.result
    (λ q. puts_as (ap (λ v. simple_lines (source_of c.args.scope.source.now) c.args.scope.slots.now.places.items (simple_view v)) c.in-Expr.is)
    (puts_then (puts_as (ap pops (sym (c.values.ensures ∙ ap value_count c.mode.ensures))) c.in_ok-put_pops-in-Expr.ensures) q)) c.operand.ensures

pub returns-in-Step : goal.returns-in-Step
unfolding simple_lines simple_view
returns-in-Step c = on_ok_weaker c.step.result
    (λ q. puts_as (ap (λ v. simple_lines (source_of c.args.scope.source.now) c.args.scope.slots.now.places.items (simple_view v)) c.in-Step.is) q)
    c.step.ensures

pub returns-in-Update : goal.returns-in-Update
unfolding simple_lines simple_view
returns-in-Update c = on_ok_weaker c.update.result
    (λ q. puts_as (ap (λ v. simple_lines (source_of c.args.scope.source.now) c.args.scope.slots.now.places.items (simple_view v)) c.in-Update.is
    ∙ ap (λ e. update_lines (address_lines (source_of c.args.scope.source.now) c.args.scope.slots.now.places.items (expr_view c.in-Update.left))
    (value_lines (source_of c.args.scope.source.now) c.args.scope.slots.now.places.items (expr_view e)) (binary_of c.in-Update.op)) (sym c.deref.ensures)) q)
    c.update.ensures

pub returns-in-Assign : goal.returns-in-Assign
unfolding simple_lines simple_view
returns-in-Assign c = on_ok_weaker c.assign.result
    (λ q. puts_as (ap (λ v. simple_lines (source_of c.args.scope.source.now) c.args.scope.slots.now.places.items (simple_view v)) c.in-Assign.is
    ∙ assigned _ _ _ _ _ _ c.deref-in-Assign.ensures.value c.deref-in-Assign-2.ensures.value) q) c.assign.ensures

pub returns-in-Define : goal.returns-in-Define
unfolding simple_lines simple_view
returns-in-Define c = on_ok_weaker c.define.result
    (λ q. puts_as (ap (λ v. simple_lines (source_of c.args.scope.source.now) c.args.scope.slots.now.places.items (simple_view v)) c.in-Define.is
    ∙ defined _ _ _ _ _ _ c.deref-in-Define.ensures.value c.deref-in-Define-2.ensures.value) q) c.define.ensures
