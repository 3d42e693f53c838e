-- The answers to the goals of `checked::CheckedBody::check_define`.
use Rattle.std.proofs.Common.{ap, ◌∙◌, map}
use Rattle.std.proofs.lemmas.Result.{on_ok_weaker}
use Rattle.go_ast.specs.View.{exprs_view}
use Rattle.types_expr.specs.WorldView.{world_of}
use Rattle.types_expr.specs.Found.{locals_of, list_value}
use Rattle.types_stmt.specs.Sides.{first_of_exprs, defined_names, rhs, with_inferred, receiving}
use Rattle.types_stmt.specs.Simple.{check_define}
use Rattle.types_stmt.specs.View.{checked_with, target_of}
use Rattle.types_stmt.proofs.CheckedSums.{given, given_then, given_as}
use Rattle.types_stmt.proofs.checked.CheckedBody.check_define.Goals as goal

pub returns : goal.returns
unfolding check_define
returns c =
    on_ok_weaker c.declare_inferred.result (λ q.
    ap (λ ks. checked_with ks c.given_faults.new.found) (q ∙
    (ap (λ ns. with_inferred (locals_of c.args.self.now.locals) ns (map list_value c.deref-4.result.now)) (c.deref-3.ensures.value ∙ c.in_ok-names.ensures)
    ∙ ap (λ vs. with_inferred (locals_of c.args.self.now.locals) (defined_names (world_of c.args.world.now) (exprs_view c.args.left.now)) vs)
    (ap (map list_value) c.deref-4.ensures.value ∙ c.in_ok-values.ensures.values)))
    ∙ (let w = world_of c.args.world.now in
    let ys = exprs_view c.args.right.now in
    let place = first_of_exprs (exprs_view c.args.left.now) in
    let r = rhs w (locals_of c.args.self.now.locals) ys in
    given_then (receiving w ys r.values) place (locals_of c.args.self.now.locals) c.in_ok-targets.ensures
    c.in_ok-values.ensures (given_as
    (ap (λ p. given (receiving w ys (map list_value c.deref.result.now)) p (map list_value c.deref.result.now) (map target_of c.deref-2.result.now))
    c.first_of_exprs-place.ensures
    ∙ (ap (λ us. given (receiving w ys (map list_value us)) place (map list_value us) (map target_of c.deref-2.result.now)) c.deref.ensures.value
    ∙ (ap (λ us. given (receiving w ys us) place (map list_value c.in_ok-values.values.items) (map target_of c.deref-2.result.now))
    c.in_ok-values.ensures.values
    ∙ ap (λ ts. given (receiving w ys r.values) place (map list_value c.in_ok-values.values.items) (map target_of ts)) c.deref-2.ensures.value)))
    c.in_ok-given_faults.ensures)
    (with_inferred (locals_of c.args.self.now.locals) (defined_names w (exprs_view c.args.left.now)) r.values))) c.declare_inferred.ensures
