-- The answers to the goals of `checked::CheckedBody::check_function`.
use Rattle.std.proofs.Common.{ap, ◌∙◌, ◌++◌, [], map}
use Rattle.std.proofs.lemmas.Result.{on_ok_weaker}
use Rattle.go_ast.specs.View.{list_view}
use Rattle.go_ast.specs.FileView.{block_view, func_view, param_view, results_view}
use Rattle.types_expr.specs.WorldView.{world_of}
use Rattle.types_expr.specs.Found.{locals_of}
use Rattle.types_stmt.specs.Checked.{with_found, fault_if, check_items}
use Rattle.types_stmt.specs.Statements.{check_block}
use Rattle.types_stmt.specs.Headers.{check_param, judge_results, is_bad_init, check_signature, check_function}
use Rattle.types_stmt.specs.View.{checked_of, checked_with, target_of}
use Rattle.types_stmt.proofs.CheckedSums.{notes_as, signed}
use Rattle.types_stmt.proofs.checked.CheckedBody.check_function.Goals as goal

pub returns : goal.returns
unfolding check_function check_signature func_view
returns c =
    let bad = c.is_bad_init-is_bad.ensures ∙ (ap (λ ts. is_bad_init c.args.is_init (func_view c.args.func.now) (map target_of ts)) c.deref-2.ensures.value ∙
    ap (is_bad_init c.args.is_init (func_view c.args.func.now)) c.in_ok-results.ensures.wanted) in
    on_ok_weaker c.check_block.result (λ q. q ∙ (ap (λ ts.
    check_block (world_of c.args.world.now) (map target_of ts) (checked_with (locals_of c.check_params.new.self.locals) c.note_if.new.found)
    (block_view c.args.func.now.body)) c.deref-3.ensures.value
    ∙ (ap (λ rs. check_block (world_of c.args.world.now) rs (checked_with (locals_of c.check_params.new.self.locals) c.note_if.new.found)
    (block_view c.args.func.now.body)) c.in_ok-results.ensures.wanted
    ∙ ap (λ s. check_block (world_of c.args.world.now) (judge_results (world_of c.args.world.now) (results_view c.args.func.now.results)).wanted s
    (block_view c.args.func.now.body))
    (signed (locals_of c.check_params.new.self.locals) c.in_ok-results.ensures
    (notes_as c.in_ok-note_if.ensures (ap (λ b. fault_if b c.args.func.now.name) bad))
    ∙ ap (λ s. with_found s ((judge_results (world_of c.args.world.now) (results_view c.args.func.now.results)).faults ++ fault_if
    (is_bad_init c.args.is_init (func_view c.args.func.now) (judge_results (world_of c.args.world.now) (results_view c.args.func.now.results)).wanted)
    c.args.func.now.name) [])
    (c.in_ok-check_params.ensures ∙ (ap (λ ps. check_items (check_param (world_of c.args.world.now)) (checked_of c.check_optional_receiver.new.self)
    (list_view param_view ps)) c.deref.ensures.value
    ∙ ap (λ s. check_items (check_param (world_of c.args.world.now)) s (list_view param_view c.args.func.now.params.items))
    c.in_ok-check_optional_receiver.ensures)))))) c.check_block.ensures
