-- The answers to the goals of `counting::bound_to`.
use Rattle.go_scope.specs.Numbering.{numerals}
use Rattle.go_scope.specs.Table.{layout_of}
use Rattle.go_scope.proofs.Binding.{use_follows}
use Rattle.go_scope.proofs.counting.bound_to.Goals as goal

pub binding-requires-clause-follows : goal.binding-requires-clause-follows
binding-requires-clause-follows c =
    use_follows (layout_of c.args.identifiers.now) (numerals c.args.names.now) c.args.d (c.is_use.ensures.0 c.if-is_use.true)
