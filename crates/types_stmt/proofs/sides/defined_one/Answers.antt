-- The answers to the goals of `sides::defined_one`.
use Rattle.std.proofs.Common.{Bool, if◌then◌else◌, None, [], ◌∷◌, ap, sym, ◌∙◌, refl}
use Rattle.go_ast.specs.View.{expr_view}
use Rattle.types_expr.specs.Types.{Broken}
use Rattle.types_expr.specs.Places.{place_of}
use Rattle.types_expr.specs.Judge.{judge_value, means}
use Rattle.types_expr.specs.WorldView.{world_of}
use Rattle.types_expr.specs.Found.{locals_of, meaning_of}
use Rattle.types_stmt.specs.Sides.{Takes, Wants, own_type, left_side, reassigned, no_name, defined_one}
use Rattle.types_stmt.specs.View.{target_of}
use Rattle.types_stmt.proofs.Cases.{defined_default}
use Rattle.types_expr.proofs.AddedJudgements.{adds_then}
use Rattle.types_stmt.proofs.LoopProgress.{adds_as, adds_left, adds_no_left, lefts_as}
use Rattle.types_stmt.proofs.sides.defined_one.Goals as goal

pub returns-in-Blank : goal.returns-in-Blank
unfolding expr_view defined_one target_of
returns-in-Blank c = lefts_as (adds_no_left Takes Broken c.args.found.now)
    (ap (λ e. defined_one (world_of c.args.scope.world.now) (locals_of c.args.scope.locals.now) (expr_view e)) (sym c.in-Blank.is))

pub returns-then-declares : goal.returns-then-declares
unfolding expr_view defined_one target_of
returns-then-declares c =
    lefts_as (adds_no_left Takes Broken c.args.found.now)
    (ap (λ (b : Bool). if b then left_side Takes (means Broken) else reassigned (world_of c.args.scope.world.now) (locals_of c.args.scope.locals.now)
    c.in-Name.place) (sym c.if-declares.true ∙ c.declares.ensures)
    ∙ ap (λ e. defined_one (world_of c.args.scope.world.now) (locals_of c.args.scope.locals.now) (expr_view e)) (sym c.in-Name.is))

pub returns-in_ok-meaning-in-Name : goal.returns-in_ok-meaning-in-Name
unfolding expr_view defined_one target_of
returns-in_ok-meaning-in-Name c =
    lefts_as (adds_left (Wants (own_type (judge_value (world_of c.args.scope.world.now) (locals_of c.args.scope.locals.now)
    (expr_view c.args.expr.now)).meaning)) c.in_ok-meaning-in-Name.ensures
    (ap (λ t. Wants t ∷ []) (c.own_type.ensures ∙ ap own_type c.in_ok-meaning-in-Name.ensures.meaning)))
    (ap (λ e. left_side (Wants (own_type (judge_value (world_of c.args.scope.world.now) (locals_of c.args.scope.locals.now) (expr_view e)).meaning))
    (judge_value (world_of c.args.scope.world.now) (locals_of c.args.scope.locals.now) (expr_view e))) c.in-Name.is
    ∙ (ap (λ (b : Bool). if b then left_side Takes (means Broken) else reassigned (world_of c.args.scope.world.now) (locals_of c.args.scope.locals.now)
    c.in-Name.place) (sym c.if-declares.false ∙ c.declares.ensures)
    ∙ ap (λ e. defined_one (world_of c.args.scope.world.now) (locals_of c.args.scope.locals.now) (expr_view e)) (sym c.in-Name.is)))

pub returns-in_ok-no_name-in_default : goal.returns-in_ok-no_name-in_default
unfolding target_of
returns-in_ok-no_name-in_default c =
    lefts_as (adds_left (Wants None) (adds_then (no_name (place_of (expr_view c.args.expr.now))) c.in_ok-meaning-in_default.ensures
    (adds_as c.in_ok-no_name-in_default.ensures (ap (λ p. no_name p (meaning_of c.in_ok-meaning-in_default.meaning)) c.place_of-place.ensures))) refl)
    (defined_default (world_of c.args.scope.world.now) (locals_of c.args.scope.locals.now) c.args.expr.now c.in_default.not-Blank c.in_default.not-Name)
