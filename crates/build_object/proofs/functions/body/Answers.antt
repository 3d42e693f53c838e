-- The answers to the goals of `functions::body`.
use Rattle.std.proofs.Common.{ap, ◌∙◌, arith}
use Rattle.go_ast.specs.FileView.{block_view, func_view}
use Rattle.build_object.specs.LineView.{line_of}
use Rattle.build_object.specs.SourceView.{source_of}
use Rattle.build_object.specs.Statements.{body_lines}
use Rattle.build_object.proofs.Blocks.{body_put}
use Rattle.build_object.proofs.functions.body.Goals as goal

pub block-requires : goal.block-requires
block-requires c = record { next = omega arith; out = omega arith }

pub returns : goal.returns
unfolding func_view line_of
returns c = body_put (source_of c.args.scope.source.now) c.args.scope.slots.now.places.items c.result_count-results.result (block_view c.args.func.now.body)
    (record { next = c.len-end.result; out = c.len-end.result })
    c.new-code.ensures c.in_ok-put.ensures c.len-end.ensures c.len-end.ensures c.in_ok-block.ensures
    ∙ ap (λ n. body_lines (source_of c.args.scope.source.now) c.args.scope.slots.now.places.items n (block_view c.args.func.now.body))
    c.result_count-results.ensures
