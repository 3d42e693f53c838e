-- The answers to the goals of `checked::CheckedBody::check_return`.
use Rattle.std.proofs.Common.{ap, ◌∙◌, map}
use Rattle.go_ast.specs.View.{exprs_view}
use Rattle.std.proofs.lemmas.Result.{on_ok_weaker}
use Rattle.types_expr.specs.WorldView.{world_of}
use Rattle.types_expr.specs.Found.{locals_of, list_value}
use Rattle.types_stmt.specs.Sides.{receiving, rhs}
use Rattle.types_stmt.specs.Statements.{check_return}
use Rattle.types_stmt.specs.View.{target_of}
use Rattle.types_stmt.proofs.CheckedSums.{returned_notes, returned_then, given_as}
use Rattle.types_stmt.proofs.checked.CheckedBody.check_return.Goals as goal

pub returns : goal.returns
unfolding check_return
returns c =
    let w = world_of c.args.world.now in
    let es = exprs_view c.args.values.now in
    let r = rhs w (locals_of c.args.self.now.locals) es in
    on_ok_weaker c.returned.result (λ n. returned_then (receiving w es r.values) c.args.place (map target_of c.args.results.now)
    (locals_of c.args.self.now.locals) c.in_ok-given.ensures
    (given_as (ap (λ vs. returned_notes (receiving w es (map list_value vs)) c.args.place (map list_value vs) (map target_of c.args.results.now))
    c.deref.ensures.value
    ∙ ap (λ us. returned_notes (receiving w es us) c.args.place (map list_value c.in_ok-given.given.items) (map target_of c.args.results.now))
    c.in_ok-given.ensures.values) n)) c.returned.ensures
