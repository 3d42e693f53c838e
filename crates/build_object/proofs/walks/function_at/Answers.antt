-- One file more, and all of them at the end.
use Rattle.std.proofs.Common.{◌<◌, ◌≤◌, sym, arith, length, map}
use Rattle.std.specs.List.{enumerate_from}
use Rattle.go_ast.specs.SourceFile.{source_of}
use Rattle.types_declared.specs.DeclaredView.{function_of as placed_function}
use Rattle.types_declared.specs.Package.{functions_in, declared_functions}
use Rattle.types_declared.proofs.Appending.{next_ranked, short_ranked}
use Rattle.build_object.proofs.Walking.{walked_next, walked_found, walked_all, nothing_there}
use Rattle.build_object.proofs.walks.function_at.Goals as goal

pub loop-file-preserved : goal.loop-file-preserved
loop-file-preserved c =
    let files = c.args.files.now in
    let i = c.loop-file.file in
    walked_next functions_in (enumerate_from 0 (map source_of files)) i (i, source_of c.index-files-file.result) c.args.rank c.loop-file.rest
    c.in-Err.left (let lt : i < length (enumerate_from 0 (map source_of files)) = omega (arith, short_ranked source_of files) in lt)
    (next_ranked source_of files i c.index-files-file.result (omega arith) c.index-files-file.is) c.loop-file.invariant c.in-Err.ensures

pub returns-in-Ok : goal.returns-in-Ok
returns-in-Ok c =
    let files = c.args.files.now in
    let i = c.loop-file.file in
    sym (walked_found functions_in (enumerate_from 0 (map source_of files)) i (i, source_of c.index-files-file.result) c.args.rank c.loop-file.rest
    (placed_function c.in-Ok.found) (let lt : i < length (enumerate_from 0 (map source_of files)) = omega (arith, short_ranked source_of files) in lt)
    (next_ranked source_of files i c.index-files-file.result (omega arith) c.index-files-file.is) c.loop-file.invariant c.in-Ok.ensures)

pub returns : goal.returns
returns c =
    let files = c.args.files.now in
    let i = c.loop-file.file in
    nothing_there (declared_functions (map source_of files)) c.args.rank c.loop-file.rest
    (walked_all functions_in (enumerate_from 0 (map source_of files)) i c.args.rank c.loop-file.rest
    (let past : length (enumerate_from 0 (map source_of files)) ≤ i = omega (arith, short_ranked source_of files) in past) c.loop-file.invariant)
