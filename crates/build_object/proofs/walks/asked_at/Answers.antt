-- One file more, and all of them at the end.
use Rattle.std.proofs.Common.{◌<◌, ◌≤◌, ap, sym, ◌∙◌, arith, length, map}
use Rattle.std.specs.List.{enumerate_from}
use Rattle.std.specs.Option.{option_flatten}
use Rattle.std.specs.Prelude.{option_map, slice_get}
use Rattle.go_ast.specs.SourceFile.{source_of}
use Rattle.types_declared.proofs.Appending.{next_ranked, short_ranked}
use Rattle.build_object.specs.LineView.{function_of}
use Rattle.build_object.specs.RankLookup.{file_asked}
use Rattle.build_object.proofs.Walking.{walked_next, walked_found, walked_all, nothing_there, asked_of_files}
use Rattle.build_object.proofs.walks.asked_at.Goals as goal

pub loop-file-preserved : goal.loop-file-preserved
loop-file-preserved c =
    let files = c.args.files.now in
    let i = c.loop-file.file in
    walked_next (file_asked c.args.path.now (map source_of files)) (enumerate_from 0 (map source_of files)) i (i, source_of c.index-files-file.result)
    c.args.rank c.loop-file.rest
    c.in-Err.left (let lt : i < length (enumerate_from 0 (map source_of files)) = omega (arith, short_ranked source_of files) in lt)
    (next_ranked source_of files i c.index-files-file.result (omega arith) c.index-files-file.is) c.loop-file.invariant c.in-Err.ensures

pub returns-in-Ok : goal.returns-in-Ok
returns-in-Ok c =
    let files = c.args.files.now in
    let i = c.loop-file.file in
    sym (ap option_flatten (ap (λ l. slice_get l c.args.rank) (asked_of_files c.args.path.now (map source_of files))
    ∙ walked_found (file_asked c.args.path.now (map source_of files)) (enumerate_from 0 (map source_of files)) i (i, source_of c.index-files-file.result)
    c.args.rank c.loop-file.rest
    (option_map function_of c.in-Ok.found) (let lt : i < length (enumerate_from 0 (map source_of files)) = omega (arith, short_ranked source_of files) in lt)
    (next_ranked source_of files i c.index-files-file.result (omega arith) c.index-files-file.is) c.loop-file.invariant c.in-Ok.ensures))

pub returns : goal.returns
returns c =
    let files = c.args.files.now in
    let i = c.loop-file.file in
    ap option_flatten (nothing_there _ c.args.rank c.loop-file.rest
    (walked_all (file_asked c.args.path.now (map source_of files)) (enumerate_from 0 (map source_of files)) i c.args.rank c.loop-file.rest
    (let past : length (enumerate_from 0 (map source_of files)) ≤ i = omega (arith, short_ranked source_of files) in past) c.loop-file.invariant)
    ∙ ap (λ l. slice_get l c.args.rank) (sym (asked_of_files c.args.path.now (map source_of files))))
