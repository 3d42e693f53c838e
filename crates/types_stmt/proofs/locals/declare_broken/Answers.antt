-- The answers to the goals of `locals::declare_broken`.
use Rattle.std.proofs.Common.{None, [], ◌+◌, ap, sym, ◌∙◌, drop}
use Rattle.std.proofs.Math.ListN.{drop_of_length-le}
use Rattle.types_expr.specs.Found.{locals_of}
use Rattle.types_stmt.specs.Sides.{with_locals}
use Rattle.types_stmt.proofs.Lists.{next_plain}
use Rattle.types_stmt.proofs.ListEquations.{with_locals_step, with_locals_end}
use Rattle.types_stmt.proofs.locals.declare_broken.Goals as goal

pub loop-name-preserved : goal.loop-name-preserved
loop-name-preserved c =
    ap (λ ls. with_locals ls (drop (c.loop-name.name-index + 1) c.args.names.now) []) c.in_ok-declare_if.ensures
    ∙ (sym (ap (λ ns. with_locals (locals_of c.loop-name.locals) ns []) (next_plain c.args.names.now c.loop-name.name-index None c.loop-name-test.true) ∙
    with_locals_step (locals_of c.loop-name.locals) _ _ []) ∙ c.loop-name.invariant)

pub returns : goal.returns
returns c =
    sym (ap (λ ns. with_locals (locals_of c.loop-name.locals) ns []) (drop_of_length-le _ c.loop-name-test.false) ∙
    with_locals_end (locals_of c.loop-name.locals) []) ∙ c.loop-name.invariant
