-- The answers to the goals of `statements::is_old`.
use Rattle.std.proofs.Common.{arith, subst}
use Rattle.go_ast.specs.View.{expr_view}
use Rattle.types_declared.proofs.Listings.{is_false}
use Rattle.types_declared.specs.Laid.{laid_in}
use Rattle.types_resolve.specs.StatementMarks.{DeclaresName}
use Rattle.types_resolve.proofs.MarkParts.{some_at, old_next}
use Rattle.types_resolve.proofs.statements.is_old.Goals as goal

pub returns-then-declares_name : goal.returns-then-declares_name
returns-then-declares_name c =
    let p = laid_in c.args.scope.table.now in (
      (λ t. let z : ⊥ = cc in absurd z),
      (λ none. absurd (none (some_at p c.args.scope.rank c.args.left.now c.loop-item.item-index c.item-item.result (omega arith)
          (subst (λ x. DeclaresName p c.args.scope.rank (expr_view x.value)) c.item-item.is (c.declares_name.ensures.0 c.if-declares_name.true))))),
    )

pub loop-item-preserved : goal.loop-item-preserved
loop-item-preserved c =
    let p = laid_in c.args.scope.table.now in
    old_next p c.args.scope.rank c.args.left.now c.loop-item.item-index c.item-item.result (omega arith) c.item-item.is c.loop-item.invariant
    (is_false (DeclaresName p c.args.scope.rank (expr_view c.item-item.result.value)) c.declares_name.result c.declares_name.ensures c.if-declares_name.false)
