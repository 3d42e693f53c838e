-- The answers to the goals of `checked::CheckedBody::check_typed_local`.
use Rattle.std.proofs.Common.{ap, sym, ◌∙◌, append-nil, map}
use Rattle.std.proofs.lemmas.Result.{on_ok_weaker}
use Rattle.go_ast.specs.View.{exprs_view, list_view, option_view, ident_view, type_view}
use Rattle.go_ast.specs.FileView.{values_view}
use Rattle.types_expr.specs.Judge.{judge_type}
use Rattle.types_expr.specs.WorldView.{world_of}
use Rattle.types_expr.specs.Found.{locals_of, list_value, noted_of}
use Rattle.types_stmt.specs.Sides.{first_of_idents, rhs, receiving}
use Rattle.types_stmt.specs.Simple.{check_typed_local, written_locals}
use Rattle.types_stmt.specs.View.{checked_of, checked_with, target_of}
use Rattle.types_stmt.proofs.LoopProgress.{list_as}
use Rattle.types_stmt.proofs.CheckedSums.{given, given_then, given_as, checked_path, adds_written}
use Rattle.types_stmt.proofs.checked.CheckedBody.check_typed_local.Goals as goal

pub returns-in-None : goal.returns-in-None
unfolding check_typed_local
returns-in-None c =
    on_ok_weaker c.declare_written.result (λ q. checked_path
    (q ∙ ap (λ t. written_locals (locals_of c.args.self.now.locals) (list_view ident_view c.args.names.now) t) c.in_ok-own.ensures.found)
    c.in_ok-own.ensures.faults (ap (map noted_of) c.in_ok-own.ensures.uses ∙ sym (append-nil (map noted_of c.args.self.now.found.uses.items))) ∙
    ap (λ v. check_typed_local (world_of c.args.world.now) (checked_of c.args.self.now) (list_view ident_view c.args.names.now)
    (judge_type (world_of c.args.world.now) (type_view c.args.written.now)) (option_view values_view v)) (sym c.in-None.is)) c.declare_written.ensures

pub returns : goal.returns
unfolding check_typed_local
returns c =
    on_ok_weaker c.declare_written-in-Some.result (λ q.
    ap (λ ks. checked_with ks c.given_faults.new.found) (q ∙
    ap (λ t. written_locals (locals_of c.args.self.now.locals) (list_view ident_view c.args.names.now) t) c.in_ok-own.ensures.found)
    ∙ (let w = world_of c.args.world.now in
    let place = first_of_idents (list_view ident_view c.args.names.now) in
    let ys = exprs_view c.in-Some.values.values.items in
    let r = rhs w (locals_of c.args.self.now.locals) ys in
    given_then (receiving w ys r.values) place (locals_of c.args.self.now.locals)
    (adds_written (list_view ident_view c.args.names.now) c.in_ok-own.ensures c.in_ok-targets-in-Some.ensures)
    (list_as c.in_ok-given-in-Some.ensures (ap (λ es. rhs w (locals_of c.args.self.now.locals) (exprs_view es)) c.deref.ensures.value))
    (given_as (ap (λ p.
    given (receiving w (exprs_view c.deref-in-Some.result.now) (map list_value c.deref-in-Some-2.result.now)) p
    (map list_value c.deref-in-Some-2.result.now) (map target_of c.deref-in-Some-3.result.now)) c.first_of_idents-place.ensures
    ∙ (ap (λ es. given (receiving w (exprs_view es) (map list_value c.deref-in-Some-2.result.now)) place
    (map list_value c.deref-in-Some-2.result.now) (map target_of c.deref-in-Some-3.result.now)) c.deref-in-Some.ensures.value
    ∙ (ap (λ us. given (receiving w ys (map list_value us)) place (map list_value us) (map target_of c.deref-in-Some-3.result.now))
    c.deref-in-Some-2.ensures.value
    ∙ (ap (λ us. given (receiving w ys us) place (map list_value c.in_ok-given-in-Some.given.items) (map target_of c.deref-in-Some-3.result.now))
    (c.in_ok-given-in-Some.ensures.values ∙ ap (λ es. (rhs w (locals_of c.args.self.now.locals) (exprs_view es)).values) c.deref.ensures.value)
    ∙ ap (λ ts. given (receiving w ys r.values) place (map list_value c.in_ok-given-in-Some.given.items) (map target_of ts))
    c.deref-in-Some-3.ensures.value)))) c.in_ok-given_faults-in-Some.ensures)
    (written_locals (locals_of c.args.self.now.locals) (list_view ident_view c.args.names.now)
    (judge_type (world_of c.args.world.now) (type_view c.args.written.now)).type_of)) ∙
    ap (λ v. check_typed_local (world_of c.args.world.now) (checked_of c.args.self.now) (list_view ident_view c.args.names.now)
    (judge_type (world_of c.args.world.now) (type_view c.args.written.now)) (option_view values_view v)) (sym c.in-Some.is))
    c.declare_written-in-Some.ensures
