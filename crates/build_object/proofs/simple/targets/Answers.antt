-- The answers to the goals of `simple::targets`.
use Rattle.std.proofs.Common.{◌-◌, ap, refl, get_or, arith}
use Rattle.go_ast.specs.View.{expr_view, exprs_view}
use Rattle.build_object.specs.SourceView.{source_of}
use Rattle.build_object.specs.Statements.{target_lines, targets_of}
use Rattle.build_object.proofs.Loops.{back_turn}
use Rattle.build_object.proofs.simple.targets.Goals as goal

pub loop-i-preserved : goal.loop-i-preserved
loop-i-preserved c = back_turn (λ xs. targets_of (source_of c.args.scope.source.now) c.args.scope.slots.now.places.items (exprs_view xs))
    (λ x. target_lines (source_of c.args.scope.source.now) c.args.scope.slots.now.places.items (expr_view x.value))
    (λ x xs. refl) c.args.left.now _ _ (omega arith) (omega arith) (ap (get_or c.args.left.now (c.loop-i.i - 1)) c.index-left-i.is) c.loop-i.invariant
    c.in_ok-target.ensures
