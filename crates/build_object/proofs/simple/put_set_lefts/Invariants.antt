-- The invariants of the loops of `simple::put_set_lefts`.
use Rattle.std.proofs.Common.{take}
use Rattle.go_ast.specs.View.{exprs_view}
use Rattle.build_object.specs.LineView.{Puts}
use Rattle.build_object.specs.SourceView.{source_of}
use Rattle.build_object.specs.Statements.{from_last, set_left}
use Rattle.build_object.proofs.simple.put_set_lefts.Given as goal

abbrev pub invariant-loop-item : goal.invariant-loop-item
invariant-loop-item l = Puts (from_last (set_left (source_of l.scope.source.now) l.scope.slots.now.places.items) (exprs_view (take l.item-index l.left)))
    l.initial.code l.code
