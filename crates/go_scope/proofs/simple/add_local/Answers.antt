-- The answers to the goals of `simple::add_local`.
use Rattle.go_scope.proofs.Adding.{two_then_adds}
use Rattle.go_scope.proofs.StatementParts.{local_read}
use Rattle.go_scope.proofs.simple.add_local.Goals as goal

pub returns : goal.returns
returns c =
    two_then_adds _ _ c.add_values.result c.in_ok-add_idents.ensures c.in_ok-add_optional_type.ensures c.add_values.ensures
    (local_read _ c.args.block c.args.following c.args.local.now _ c.deref.ensures.value)
