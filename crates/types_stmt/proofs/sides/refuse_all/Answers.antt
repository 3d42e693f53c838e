-- The answers to the goals of `sides::refuse_all`.
use Rattle.std.proofs.Common.{◌+◌, ◌∷◌, ap, ◌∙◌, drop, map}
use Rattle.std.proofs.Math.ListN.{drop_of_length-le}
use Rattle.types_expr.specs.WorldView.{world_of}
use Rattle.types_expr.specs.Found.{list_value}
use Rattle.types_stmt.specs.View.{target_of}
use Rattle.types_stmt.proofs.LoopProgress.{grown_notes_step, grown_notes_end}
use Rattle.types_expr.proofs.Items.{next_item}
use Rattle.types_stmt.proofs.ListEquations.{refused_note, refused_notes, all_refused_step, all_refused_no_values, all_refused_no_targets}
use Rattle.types_stmt.proofs.sides.refuse_all.Goals as goal
use Rattle.types_expr.specs.World.{giving}

pub each-preserved : goal.each-preserved
each-preserved c =
    grown_notes_step (refused_note (giving c.args.own (world_of c.args.world.now)) (list_value c.index-values-i.result) (target_of c.index-targets-i.result))
    c.each.invariant c.in_ok-refuse.ensures
    (ap (λ vs. refused_notes (giving c.args.own (world_of c.args.world.now)) (map list_value vs) (map target_of (drop c.each.i c.args.targets.now)))
    (next_item _ _ _ c.each-test.true c.index-values-i.is)
    ∙ (ap (λ ts. refused_notes (giving c.args.own (world_of c.args.world.now)) (map list_value (c.index-values-i.result ∷ drop (c.each.i + 1)
    c.args.values.now))
    (map target_of ts)) (next_item _ _ _ c.if-i-targets.true c.index-targets-i.is)
    ∙ all_refused_step (giving c.args.own (world_of c.args.world.now)) (list_value c.index-values-i.result) (map list_value (drop
    (c.each.i + 1) c.args.values.now))
    (target_of c.index-targets-i.result) (map target_of (drop (c.each.i + 1) c.args.targets.now))))

pub returns-else-i-targets : goal.returns-else-i-targets
returns-else-i-targets c = grown_notes_end c.each.invariant
    (ap (λ ts. refused_notes (giving c.args.own (world_of c.args.world.now)) (map list_value (drop c.each.i c.args.values.now)) (map target_of ts))
    (drop_of_length-le _ c.if-i-targets.false) ∙ all_refused_no_targets (giving c.args.own (world_of c.args.world.now)) _)

pub returns-after-each : goal.returns-after-each
returns-after-each c = grown_notes_end c.each.invariant
    (ap (λ vs. refused_notes (giving c.args.own (world_of c.args.world.now)) (map list_value vs) (map target_of (drop c.each.i c.args.targets.now)))
    (drop_of_length-le _ c.each-test.false) ∙ all_refused_no_values (giving c.args.own (world_of c.args.world.now)) _)
