-- The answers to the goals of `file_edits::edits_of`.
use Rattle.std.proofs.Common.{◌≡◌, ◌≤◌, ap, subst, sym, ◌∙◌, arith, get_or, length, Some, slice_get}
use Rattle.std.proofs.lemmas.Option.{slice_get-get_or}
use Rattle.go_scanner.specs.declared.piece.Piece.{Piece}
use Rattle.go_scanner.specs.CutText.{tokens_in}
use Rattle.go_ast.specs.SourceFile.{source_of}
use Rattle.refactor_rename.specs.FileEdits.{EndBy}
use Rattle.refactor_rename.proofs.Editing.{end_more, follow_at}
use Rattle.refactor_move.specs.Uses.{IsMarkedEditAt}
use Rattle.refactor_move.proofs.TokenEdits.{going_next, all_edits}
use Rattle.refactor_move.proofs.file_edits.edits_of.Goals as goal

pub add_edit-requires-clause-at : goal.add_edit-requires-clause-at
add_edit-requires-clause-at c =
    let tokens = c.tokens-tokens.result.now in
    let number = c.loop-number.number in
    let read : c.piece-token.result ≡ get_or tokens number c.index-tokens-number.result = c.piece-token.ensures ∙ c.index-tokens-number.is in
    subst (λ ts. slice_get ts number ≡ Some c.piece-token.result) (c.tokens-tokens.ensures.tokens ∙ ap tokens_in c.pieces.ensures)
    (slice_get-get_or tokens number c.index-tokens-number.result c.loop-number-test.true ∙ ap Some (sym read))

pub add_edit-requires-clause-span : goal.add_edit-requires-clause-span
add_edit-requires-clause-span c =
    let h = c.loop-number.invariant in
    let read : c.piece-token.result ≡ get_or c.tokens-tokens.result.now c.loop-number.number c.index-tokens-number.result =
    c.piece-token.ensures ∙ c.index-tokens-number.is in
    subst (λ (t : Piece). t.span.start ≤ t.span.end) (sym read)
    (follow_at c.tokens-tokens.result.now c.loop-number.number h.at (length (source_of c.args.of.now.file.now).cut.text) c.index-tokens-number.result
    c.loop-number-test.true h.follow).1

pub add_edit-requires-clause-order : goal.add_edit-requires-clause-order
add_edit-requires-clause-order c =
    let h = c.loop-number.invariant in
    let read : c.piece-token.result ≡ get_or c.tokens-tokens.result.now c.loop-number.number c.index-tokens-number.result =
    c.piece-token.ensures ∙ c.index-tokens-number.is in
    let follows = follow_at c.tokens-tokens.result.now c.loop-number.number h.at (length (source_of c.args.of.now.file.now).cut.text)
    c.index-tokens-number.result c.loop-number-test.true h.follow in
    subst (λ (t : Piece). EndBy c.loop-number.edits.items t.span.start) (sym read)
    (end_more c.loop-number.edits.items h.at (get_or c.tokens-tokens.result.now c.loop-number.number c.index-tokens-number.result).span.start follows.0
    h.end_by)

pub loop-number-preserved : goal.loop-number-preserved
loop-number-preserved c =
    let of = c.args.of.now in
    let read : c.piece-token.result ≡ get_or c.tokens-tokens.result.now c.loop-number.number c.index-tokens-number.result =
    c.piece-token.ensures ∙ c.index-tokens-number.is in
    going_next (IsMarkedEditAt of.path.now of.rank (source_of of.file.now) of.moved.now of.rows.now) (source_of of.file.now)
    c.tokens-tokens.result.now c.loop-number.number c.index-tokens-number.result c.loop-number.edits.items c.add_edit.new.edits.items
    c.loop-number-test.true c.loop-number.invariant
    (subst (λ (t : Piece). EndBy c.add_edit.new.edits.items t.span.end) read c.in_ok-add_edit.ensures.order) c.in_ok-add_edit.ensures.adds

pub returns : goal.returns
returns c =
    let of = c.args.of.now in
    all_edits of.path.now of.rank (source_of of.file.now) of.moved.now of.rows.now c.tokens-tokens.result.now c.loop-number.edits.items
    c.loop-number.number (c.tokens-tokens.ensures.tokens ∙ ap tokens_in c.pieces.ensures) (omega arith) c.loop-number.invariant
