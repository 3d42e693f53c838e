-- One file more, and all of them at the end.
use Rattle.std.proofs.Common.{ap, sym, ◌∙◌, arith}
use Rattle.std.specs.Prelude.{slice_get}
use Rattle.go_ast.specs.SourceFile.{source_of}
use Rattle.build_object.specs.RankLookup.{file_positions}
use Rattle.build_object.proofs.Walking.{walked_next, walked_found, walked_all, nothing_there, positions_of_files}
use Rattle.build_object.proofs.walks.position_at.Goals as goal

pub loop-tree-preserved : goal.loop-tree-preserved
loop-tree-preserved c =
    walked_next (λ t. file_positions (source_of t)) c.args.files.now c.loop-tree.tree-index c.tree-item.result c.args.rank c.loop-tree.rest
    c.in-Err.left (omega arith) c.tree-item.is c.loop-tree.invariant c.in-Err.ensures

pub returns-in-Ok : goal.returns-in-Ok
returns-in-Ok c =
    sym (ap (λ l. slice_get l c.args.rank) (positions_of_files c.args.files.now)
    ∙ walked_found (λ t. file_positions (source_of t)) c.args.files.now c.loop-tree.tree-index c.tree-item.result c.args.rank
    c.loop-tree.rest c.in-Ok.found (omega arith) c.tree-item.is c.loop-tree.invariant c.in-Ok.ensures)

pub returns : goal.returns
returns c =
    nothing_there _ c.args.rank c.loop-tree.rest
    (walked_all (λ t. file_positions (source_of t)) c.args.files.now c.loop-tree.tree-index c.args.rank c.loop-tree.rest (omega arith)
    c.loop-tree.invariant)
    ∙ ap (λ l. slice_get l c.args.rank) (sym (positions_of_files c.args.files.now))
