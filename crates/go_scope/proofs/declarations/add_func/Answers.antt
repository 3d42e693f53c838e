-- The answers to the goals of `declarations::add_func`.
use Rattle.go_scope.proofs.Adding.{four_then_adds}
use Rattle.go_scope.proofs.FileParts.{func_read}
use Rattle.go_scope.proofs.declarations.add_func.Goals as goal

pub returns : goal.returns
returns c =
    four_then_adds _ _ c.add_block.result c.in_ok-add_receiver.ensures c.in_ok-add.ensures c.in_ok-add_params.ensures c.in_ok-add_results.ensures
    c.add_block.ensures
    (func_read _ c.args.func.now _ _ c.function_role.ensures c.deref.ensures.value)
