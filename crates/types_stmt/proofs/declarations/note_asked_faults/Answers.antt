-- The answers to the goals of `declarations::note_asked_faults`.
use Rattle.std.proofs.Common.{◌++◌, ap, ◌∙◌}
use Rattle.std.proofs.Math.ListN.{drop_of_length-le}
use Rattle.go_ast.specs.View.{list_view}
use Rattle.go_ast.specs.FileView.{param_view, method_view, results_view}
use Rattle.types_expr.specs.WorldView.{world_of}
use Rattle.types_stmt.specs.Headers.{judge_results}
use Rattle.types_stmt.specs.Declarations.{param_faults, asked_faults}
use Rattle.types_stmt.proofs.LoopProgress.{grown_faults_step, grown_faults_end}
use Rattle.types_expr.proofs.Items.{next_item}
use Rattle.types_stmt.proofs.CheckedSums.{notes_as, params_then_results}
use Rattle.types_stmt.proofs.ListEquations.{asked_faults_step, asked_faults_end}
use Rattle.types_stmt.proofs.declarations.note_asked_faults.Goals as goal

pub loop-item-preserved : goal.loop-item-preserved
loop-item-preserved c =
    let w = world_of c.args.world.now in
    let m = c.item-item.result.value in
    grown_faults_step (param_faults w (list_view param_view m.params.items) ++ (judge_results w (results_view m.results)).faults) c.loop-item.invariant
    (params_then_results
    (notes_as c.in_ok-note_param_faults.ensures (ap (λ ps. param_faults w (list_view param_view ps)) c.deref.ensures.value))
    c.in_ok-results_of.ensures)
    (ap (λ xs. asked_faults w (list_view method_view xs)) (next_item _ _ _ c.loop-item-test.true c.item-item.is) ∙
    asked_faults_step w c.item-item.result _)

pub returns : goal.returns
returns c = grown_faults_end c.loop-item.invariant
    (ap (λ xs. asked_faults (world_of c.args.world.now) (list_view method_view xs)) (drop_of_length-le _ c.loop-item-test.false) ∙
    asked_faults_end (world_of c.args.world.now))
