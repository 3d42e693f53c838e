-- The answer to the goal of `plain::is_row_inside`.
use Rattle.std.proofs.Common.{◌≡◌, ◌<◌, length, false, sym, ap, ◌∙◌, arith}
use Rattle.std.specs.Prelude.{Some, slice_get, slice_index_or}
use Rattle.std.proofs.lemmas.Bool.{leb-true}
use Rattle.std.proofs.lemmas.Option.{slice_get-get_or}
use Rattle.go_ast.specs.SourceFile.{source_of}
use Rattle.go_scanner.specs.CutText.{tokens_in}
use Rattle.refactor_move.specs.Uses.{marks_in_row}
use Rattle.refactor_follow.proofs.MarkedRows.{mark_inside}
use Rattle.refactor_follow.proofs.plain.is_row_inside.Goals as goal

pub returns-in-Some : goal.returns-in-Some
returns-in-Some c = λ t i e.
    let rows = c.args.rows.now in
    let row = c.in-Some.row.now in
    let at : slice_get rows c.args.rank ≡ Some row =
    slice_get-get_or rows c.args.rank row c.in-Some.ensures.lookup.3.0 ∙ ap Some (sym c.in-Some.ensures.lookup.1) in
    let marked = mark_inside row.items i (sym (ap (λ o. slice_index_or (marks_in_row o) i false) at) ∙ e) in
    let size : length c.tokens.result.now ≡ length (tokens_in (source_of c.args.file.now).cut) =
    ap length (c.tokens.ensures.tokens ∙ ap tokens_in c.pieces.ensures) in
    let long = leb-true c.len.result (length c.tokens.result.now) t in
    let own : c.len.result ≡ length row.items = c.len.ensures ∙ row.ok.0 in
    omega (arith, marked, size, long, own)
