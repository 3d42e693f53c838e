-- The answers to the goals of `checked::CheckedBody::check_untyped_local`.
use Rattle.std.proofs.Common.{ap, sym, ◌∙◌, append-nil, [], map}
use Rattle.std.proofs.lemmas.Result.{on_ok_weaker}
use Rattle.go_ast.specs.View.{exprs_view, list_view, option_view, ident_view}
use Rattle.go_ast.specs.FileView.{values_view}
use Rattle.types_expr.specs.WorldView.{world_of}
use Rattle.types_expr.specs.Found.{locals_of, list_value, noted_of}
use Rattle.types_stmt.specs.Sides.{Takes, first_of_idents, all_named, rhs, with_locals, with_inferred, receiving}
use Rattle.types_stmt.specs.Simple.{check_untyped_local}
use Rattle.types_stmt.specs.View.{checked_of, checked_with, target_of}
use Rattle.types_stmt.proofs.LoopProgress.{list_as}
use Rattle.types_stmt.proofs.CheckedSums.{given, given_then, given_as, checked_path, adds_names}
use Rattle.types_stmt.proofs.checked.CheckedBody.check_untyped_local.Goals as goal

pub returns-in_default : goal.returns-in_default
unfolding check_untyped_local
returns-in_default c =
    on_ok_weaker c.declare_broken.result (λ q. checked_path
    (q ∙ ap (λ ns. with_locals (locals_of c.args.self.now.locals) ns []) (c.deref.ensures.value ∙ c.in_ok-names.ensures))
    (sym (append-nil c.args.self.now.found.faults.items)) (sym (append-nil (map noted_of c.args.self.now.found.uses.items))) ∙
    ap (λ v. check_untyped_local (world_of c.args.world.now) (checked_of c.args.self.now) (list_view ident_view c.args.idents.now)
    (option_view values_view v)) (sym c.in_default.is)) c.declare_broken.ensures

pub returns : goal.returns
unfolding check_untyped_local
returns c =
    let w = world_of c.args.world.now in
    let ls = locals_of c.args.self.now.locals in
    let names = list_view ident_view c.args.idents.now in
    let place = first_of_idents names in
    let ys = exprs_view c.in-Some.values.values.items in
    let r = rhs w ls ys in
    on_ok_weaker c.declare_inferred.result (λ q.
    ap (λ ks. checked_with ks c.given_faults.new.found) (q ∙
    (ap (λ ns. with_inferred ls ns (map list_value c.deref-7.result.now)) (c.deref-6.ensures.value ∙ c.in_ok-names.ensures)
    ∙ ap (λ vs. with_inferred ls (all_named names) vs)
    (ap (map list_value) c.deref-7.ensures.value ∙
    (c.in_ok-given.ensures.values ∙ ap (λ es. (rhs w ls (exprs_view es)).values) c.deref-2.ensures.value))))
    ∙ (given_then (receiving w ys r.values) place ls (adds_names names Takes c.args.self.now.found c.in_ok-targets.ensures)
    (list_as c.in_ok-given.ensures (ap (λ es. rhs w ls (exprs_view es)) c.deref-2.ensures.value))
    (given_as (ap (λ p.
    given (receiving w (exprs_view c.deref-3.result.now) (map list_value c.deref-4.result.now)) p (map list_value c.deref-4.result.now)
    (map target_of c.deref-5.result.now)) c.first_of_idents-place.ensures
    ∙ (ap (λ es. given (receiving w (exprs_view es) (map list_value c.deref-4.result.now)) place (map list_value c.deref-4.result.now)
    (map target_of c.deref-5.result.now)) c.deref-3.ensures.value
    ∙ (ap (λ us. given (receiving w ys (map list_value us)) place (map list_value us) (map target_of c.deref-5.result.now)) c.deref-4.ensures.value
    ∙ (ap (λ us. given (receiving w ys us) place (map list_value c.in_ok-given.given.items) (map target_of c.deref-5.result.now))
    (c.in_ok-given.ensures.values ∙ ap (λ es. (rhs w ls (exprs_view es)).values) c.deref-2.ensures.value)
    ∙ ap (λ ts. given (receiving w ys r.values) place (map list_value c.in_ok-given.given.items) (map target_of ts)) c.deref-5.ensures.value))))
    c.in_ok-given_faults.ensures)
    (with_inferred ls (all_named names) r.values) ∙
    ap (λ v. check_untyped_local w (checked_of c.args.self.now) names (option_view values_view v)) (sym c.in-Some.is))) c.declare_inferred.ensures
