-- The answers to the goals of `file_edits::edits_of`.
use Rattle.std.proofs.Common.{◌≡◌, ◌≤◌, length, sym, ap, subst, ◌∙◌, arith, get_or, Some, slice_get}
use Rattle.std.specs.List.Sorted.{IsStrictlySortedBy}
use Rattle.std.specs.Ordering.{nat_cmp}
use Rattle.std.proofs.lemmas.Option.{slice_get-get_or}
use Rattle.go_scanner.specs.declared.piece.Piece.{Piece}
use Rattle.go_scanner.specs.CutText.{CutText, tokens_in}
use Rattle.go_scanner.specs.Spans.{FollowFrom, starts}
use Rattle.go_ast.specs.SourceFile.{source_of}
use Rattle.refactor_rename.specs.FileEdits.{EndBy}
use Rattle.refactor_rename.proofs.Editing.{going_first, going_next, follow_at, end_more, all_edits}
use Rattle.refactor_rename.proofs.file_edits.edits_of.Goals as goal

pub add_edits-requires-clause-at : goal.add_edits-requires-clause-at
add_edits-requires-clause-at c =
    let tokens = c.tokens-tokens.result.now in
    let number = c.loop-number.number in
    let read : c.piece-token.result ≡ get_or tokens number c.index-tokens-number.result = c.piece-token.ensures ∙ c.index-tokens-number.is in
    subst (λ ts. slice_get ts number ≡ Some c.piece-token.result) (c.tokens-tokens.ensures.tokens ∙ ap tokens_in c.pieces.ensures)
    (slice_get-get_or tokens number c.index-tokens-number.result c.loop-number-test.true ∙ ap Some (sym read))

pub add_edits-requires-clause-span : goal.add_edits-requires-clause-span
add_edits-requires-clause-span c =
    let h = c.loop-number.invariant in
    let read : c.piece-token.result ≡ get_or c.tokens-tokens.result.now c.loop-number.number c.index-tokens-number.result =
    c.piece-token.ensures ∙ c.index-tokens-number.is in
    subst (λ (t : Piece). t.span.start ≤ t.span.end) (sym read)
    (follow_at c.tokens-tokens.result.now c.loop-number.number h.at (length (source_of c.args.file.now).cut.text) c.index-tokens-number.result
    c.loop-number-test.true h.follow).1

pub add_edits-requires-clause-order : goal.add_edits-requires-clause-order
add_edits-requires-clause-order c =
    let h = c.loop-number.invariant in
    let read : c.piece-token.result ≡ get_or c.tokens-tokens.result.now c.loop-number.number c.index-tokens-number.result =
    c.piece-token.ensures ∙ c.index-tokens-number.is in
    let follows = follow_at c.tokens-tokens.result.now c.loop-number.number h.at (length (source_of c.args.file.now).cut.text)
    c.index-tokens-number.result c.loop-number-test.true h.follow in
    subst (λ (t : Piece). EndBy c.loop-number.edits.items t.span.start) (sym read)
    (end_more c.loop-number.edits.items h.at (get_or c.tokens-tokens.result.now c.loop-number.number c.index-tokens-number.result).span.start follows.0
    h.end_by)

pub loop-number-init : goal.loop-number-init
loop-number-init c =
    let cut = c.pieces.result.now in
    let text = (source_of c.args.file.now).cut.text in
    going_first (source_of c.args.file.now) c.args.renamed.now c.tokens-tokens.result.now c.new-edits.result.items c.new-edits.ensures.items
    (subst (λ ts. FollowFrom 0 ts (length text)) (sym c.tokens-tokens.ensures.tokens)
    (subst (λ (v : CutText). FollowFrom 0 (tokens_in cut) (length v.text)) c.pieces.ensures c.tokens-tokens.ensures.order.follow))

pub loop-number-preserved : goal.loop-number-preserved
loop-number-preserved c =
    let read : c.piece-token.result ≡ get_or c.tokens-tokens.result.now c.loop-number.number c.index-tokens-number.result =
    c.piece-token.ensures ∙ c.index-tokens-number.is in
    going_next (source_of c.args.file.now) c.args.renamed.now c.tokens-tokens.result.now c.loop-number.number c.index-tokens-number.result
    c.loop-number.edits.items c.add_edits.new.edits.items
    (subst (λ (v : CutText). IsStrictlySortedBy nat_cmp (starts (tokens_in v))) c.pieces.ensures c.tokens-tokens.ensures.order.rise)
    c.loop-number-test.true c.loop-number.invariant
    (subst (λ (t : Piece). EndBy c.add_edits.new.edits.items t.span.end) read c.in_ok-add_edits.ensures.order) c.in_ok-add_edits.ensures.adds

pub returns : goal.returns
returns c =
    all_edits (source_of c.args.file.now) c.args.renamed.now c.tokens-tokens.result.now c.loop-number.edits.items c.loop-number.number
    (c.tokens-tokens.ensures.tokens ∙ ap tokens_in c.pieces.ensures) (omega arith) c.loop-number.invariant
