-- The answers to the goals of `declarations::note_param_faults`.
use Rattle.std.proofs.Common.{ap, ◌∙◌}
use Rattle.std.proofs.Math.ListN.{drop_of_length-le}
use Rattle.go_ast.specs.View.{list_view, type_view}
use Rattle.go_ast.specs.FileView.{param_view}
use Rattle.types_expr.specs.Judge.{judge_type}
use Rattle.types_expr.specs.WorldView.{world_of}
use Rattle.types_stmt.specs.Declarations.{param_faults}
use Rattle.types_stmt.proofs.LoopProgress.{grown_faults_step, grown_faults_end}
use Rattle.types_expr.proofs.Items.{next_item}
use Rattle.types_stmt.proofs.CheckedSums.{type_notes}
use Rattle.types_stmt.proofs.ListEquations.{param_faults_step, param_faults_end}
use Rattle.types_stmt.proofs.declarations.note_param_faults.Goals as goal

pub loop-item-preserved : goal.loop-item-preserved
loop-item-preserved c =
    grown_faults_step (judge_type (world_of c.args.world.now) (type_view c.item-item.result.value.param_type)).faults c.loop-item.invariant
    (type_notes c.in_ok-judge_type.ensures)
    (ap (λ xs. param_faults (world_of c.args.world.now) (list_view param_view xs)) (next_item _ _ _ c.loop-item-test.true c.item-item.is) ∙
    param_faults_step (world_of c.args.world.now) c.item-item.result _)

pub returns : goal.returns
returns c = grown_faults_end c.loop-item.invariant
    (ap (λ xs. param_faults (world_of c.args.world.now) (list_view param_view xs)) (drop_of_length-le _ c.loop-item-test.false) ∙
    param_faults_end (world_of c.args.world.now))
