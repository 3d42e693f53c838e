-- The answers to the goals of `simple::put_zeros`.
use Rattle.std.proofs.Common.{refl, arith}
use Rattle.std.specs.List.{flat_map}
use Rattle.go_ast.specs.View.{list_view, ident_view, type_view}
use Rattle.types_expr.specs.Judge.{judge_type}
use Rattle.build_object.specs.Lines.{line_if_known}
use Rattle.build_object.specs.Lines as line
use Rattle.build_object.specs.SourceView.{source_of}
use Rattle.build_object.proofs.Loops.{back_alike}
use Rattle.build_object.proofs.simple.put_zeros.Goals as goal

pub loop-i-preserved : goal.loop-i-preserved
loop-i-preserved c = back_alike (λ xs. flat_map (λ i.
    line_if_known line.Zero (judge_type (source_of c.args.scope.source.now).world (type_view c.args.written.now)).type_of) (list_view ident_view xs)) _
    (λ x xs. refl) c.args.names.now _ (omega arith) (omega arith) c.loop-i.invariant c.in_ok-put_zero.ensures
