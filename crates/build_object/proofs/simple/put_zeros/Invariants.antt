-- The invariants of the loops of `simple::put_zeros`.
use Rattle.std.proofs.Common.{drop}
use Rattle.std.specs.List.{flat_map}
use Rattle.go_ast.specs.View.{list_view, ident_view, type_view}
use Rattle.types_expr.specs.Judge.{judge_type}
use Rattle.build_object.specs.Lines.{line_if_known}
use Rattle.build_object.specs.Lines as line
use Rattle.build_object.specs.LineView.{Puts}
use Rattle.build_object.specs.SourceView.{source_of}
use Rattle.build_object.proofs.simple.put_zeros.Given as goal

abbrev pub invariant-loop-i : goal.invariant-loop-i
invariant-loop-i l = Puts (flat_map (λ i. line_if_known line.Zero (judge_type (source_of l.scope.source.now).world (type_view l.written)).type_of)
    (list_view ident_view (drop l._i l.names))) l.initial.code l.code
