-- The answers to the goals of `statements::declares_name`.
use Rattle.std.proofs.Common.{◌↔◌, sym, subst, IsTrue}
use Rattle.go_ast.specs.View.{expr_view}
use Rattle.go_ast.specs.declared.tree.Expr.{Expr}
use Rattle.types_declared.specs.Laid.{laid_in}
use Rattle.types_resolve.specs.StatementMarks.{DeclaresName}
use Rattle.types_resolve.proofs.MarkParts.{not_a_name}
use Rattle.types_resolve.proofs.statements.declares_name.Goals as goal

pub returns-in-Name : goal.returns-in-Name
unfolding expr_view
returns-in-Name c =
    let P : Expr → Type 0 = λ e. IsTrue c.declares_at.result ↔ DeclaresName (laid_in c.args.scope.table.now) c.args.scope.rank (expr_view e) in
    subst P (sym c.in-Name.is) c.declares_at.ensures

pub returns-in_default : goal.returns-in_default
returns-in_default c = (
  (λ t. let z : ⊥ = cc in absurd z),
  (λ h. absurd (not_a_name (laid_in c.args.scope.table.now) c.args.scope.rank c.args.left.now c.in_default.not-Name h)),
)
