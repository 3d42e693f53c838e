-- The answers to the goals of `checked::CheckedBody::check_assign`.
use Rattle.std.proofs.Common.{ap, ◌∙◌, map}
use Rattle.std.proofs.lemmas.Result.{on_ok_weaker}
use Rattle.go_ast.specs.View.{exprs_view}
use Rattle.types_expr.specs.WorldView.{world_of}
use Rattle.types_expr.specs.Found.{locals_of, list_value}
use Rattle.types_stmt.specs.Sides.{first_of_exprs, receiving, rhs}
use Rattle.types_stmt.specs.Simple.{check_assign}
use Rattle.types_stmt.specs.View.{target_of}
use Rattle.types_stmt.proofs.CheckedSums.{given, given_then, given_as}
use Rattle.types_stmt.proofs.checked.CheckedBody.check_assign.Goals as goal

pub returns : goal.returns
unfolding check_assign
returns c =
    let w = world_of c.args.world.now in
    let ys = exprs_view c.args.right.now in
    let place = first_of_exprs (exprs_view c.args.left.now) in
    let vs = map list_value c.in_ok-values.values.items in
    on_ok_weaker c.given_faults.result (λ n. given_then (receiving w ys (rhs w (locals_of c.args.self.now.locals) ys).values) place
    (locals_of c.args.self.now.locals) c.in_ok-targets.ensures c.in_ok-values.ensures
    (given_as (ap (λ p. given (receiving w ys (map list_value c.deref.result.now)) p (map list_value c.deref.result.now)
    (map target_of c.deref-2.result.now)) c.first_of_exprs-place.ensures
    ∙ (ap (λ us. given (receiving w ys (map list_value us)) place (map list_value us) (map target_of c.deref-2.result.now)) c.deref.ensures.value
    ∙ (ap (λ us. given (receiving w ys us) place vs (map target_of c.deref-2.result.now)) c.in_ok-values.ensures.values
    ∙ ap (λ ts. given (receiving w ys (rhs w (locals_of c.args.self.now.locals) ys).values) place vs (map target_of ts))
    c.deref-2.ensures.value))) n) (locals_of c.args.self.now.locals)) c.given_faults.ensures
