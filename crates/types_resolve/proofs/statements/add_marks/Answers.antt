-- The answers to the goals of `statements::add_marks`.
use Rattle.std.proofs.Common.{[], ◌∷◌, arith, map}
use Rattle.std.specs.List.{enumerate_from}
use Rattle.types_declared.proofs.ItemFaults.{each_as, each_one}
use Rattle.types_declared.proofs.FileFaults.{next_file, all_files, flat_map-single}
use Rattle.go_ast.specs.SourceFile.{source_of}
use Rattle.types_declared.specs.Laid.{laid_in}
use Rattle.types_resolve.specs.StatementMarks.{IsFaultOfMarks}
use Rattle.types_resolve.proofs.statements.add_marks.Goals as goal

pub loop-rank-preserved : goal.loop-rank-preserved
loop-rank-preserved c =
    let Q = IsFaultOfMarks (laid_in c.args.table.now) in
    next_file Q c.args.found.now.items c.loop-rank.found.items c.add_file.new.found.items (λ r. r ∷ []) source_of c.args.files.now c.loop-rank.rank
    c.index-files-rank.result
    (omega arith) c.index-files-rank.is c.loop-rank.invariant
    (each_one Q c.loop-rank.found.items c.add_file.new.found.items (c.loop-rank.rank, source_of c.index-files-rank.result) c.in_ok-add_file.ensures)

pub returns : goal.returns
returns c =
    let Q = IsFaultOfMarks (laid_in c.args.table.now) in
    each_as Q c.args.found.now.items c.loop-rank.found.items _ _
    (all_files Q c.args.found.now.items c.loop-rank.found.items (λ r. r ∷ []) source_of c.args.files.now c.loop-rank.rank (omega arith) c.loop-rank.invariant)
    (flat_map-single (enumerate_from 0 (map source_of c.args.files.now)))
