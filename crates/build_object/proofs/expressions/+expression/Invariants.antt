-- The invariants of the loops of `expressions::expression`.
use Rattle.std.proofs.Common.{drop}
use Rattle.types_expr.specs.Lists.{operands_in, arguments_in, elements_in}
use Rattle.build_object.specs.LineView.{Puts}
use Rattle.build_object.specs.SourceView.{source_of}
use Rattle.build_object.specs.Expressions.{operations, argument_lines, keyed_lines, bare_lines}
use Rattle.build_object.specs.Making.{AppliesLines}
use Rattle.build_object.proofs.Going.{GoesOver}
use Rattle.build_object.proofs.expressions.+expression.Given as goal

abbrev pub invariant-chain-loop-i : goal.invariant-chain-loop-i
invariant-chain-loop-i l =
    GoesOver (source_of l.scope.source.now) l.scope.slots.now.places.items l.links l.i l.head l.fn.want l.want l.initial.code l.code

abbrev pub invariant-operations-loop-i : goal.invariant-operations-loop-i
invariant-operations-loop-i l = AppliesLines (λ a. operations (source_of l.scope.source.now) l.scope.slots.now.places.items a (operands_in (drop l.i l.rest)))
    l.initial.code l.code

abbrev pub invariant-arguments-loop-i : goal.invariant-arguments-loop-i
invariant-arguments-loop-i l = Puts (argument_lines (source_of l.scope.source.now) l.scope.slots.now.places.items (arguments_in (drop l.i l.list)))
    l.initial.code l.code

abbrev pub invariant-keyed-loop-i : goal.invariant-keyed-loop-i
invariant-keyed-loop-i l = Puts (keyed_lines (source_of l.scope.source.now) l.scope.slots.now.places.items (elements_in (drop l.i l.list))) l.initial.code
    l.code

abbrev pub invariant-bare-loop-i : goal.invariant-bare-loop-i
invariant-bare-loop-i l = Puts (bare_lines (source_of l.scope.source.now) l.scope.slots.now.places.items (elements_in (drop l.i l.list))) l.initial.code l.code
