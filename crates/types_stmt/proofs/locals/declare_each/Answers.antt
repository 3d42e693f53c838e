-- The answers to the goals of `locals::declare_each`.
use Rattle.std.proofs.Common.{None, ◌+◌, ◌<◌, ◌∷◌, arith, length, get_or, ap, sym, ◌∙◌, drop, map}
use Rattle.std.proofs.Math.ListN.{drop_of_length-le}
use Rattle.types_expr.specs.Found.{locals_of, list_value}
use Rattle.types_stmt.specs.Sides.{with_locals, declared_if, inferred_types}
use Rattle.types_stmt.proofs.Lists.{next_plain}
use Rattle.types_stmt.proofs.ListEquations.{with_locals_step, with_locals_end}
use Rattle.types_stmt.proofs.locals.declare_each.Goals as goal

pub loop-i-preserved : goal.loop-i-preserved
loop-i-preserved c =
    let within : c.loop-i.i < length c.args.values.now = omega arith in
    ap (λ ls. with_locals ls (drop (c.loop-i.i + 1) c.args.names.now) (inferred_types (map list_value (drop (c.loop-i.i + 1) c.args.values.now))))
    (c.in_ok-declare_if.ensures ∙ ap (λ t. declared_if (locals_of c.loop-i.locals) (get_or c.args.names.now c.loop-i.i None) t) c.in_ok-own.ensures)
    ∙ (sym (ap (λ ns. with_locals (locals_of c.loop-i.locals) ns (inferred_types (map list_value (drop c.loop-i.i c.args.values.now))))
    (next_plain c.args.names.now c.loop-i.i None c.loop-i-test.true)
    ∙ (ap (λ vs. with_locals (locals_of c.loop-i.locals) (get_or c.args.names.now c.loop-i.i None ∷ drop (c.loop-i.i + 1) c.args.names.now)
    (inferred_types (map list_value vs))) (next_plain c.args.values.now c.loop-i.i c.index-values-i.result within)
    ∙ with_locals_step (locals_of c.loop-i.locals) _ _ _)) ∙ c.loop-i.invariant)

pub returns : goal.returns
returns c =
    sym (ap (λ ns. with_locals (locals_of c.loop-i.locals) ns (inferred_types (map list_value (drop c.loop-i.i c.args.values.now))))
    (drop_of_length-le _ c.loop-i-test.false) ∙ with_locals_end (locals_of c.loop-i.locals) _) ∙ c.loop-i.invariant
