-- The answers to the goals of `respelling::respelled_pieces`.
use Rattle.std.proofs.Common.{List, ℕ, ◌<◌, ◌^◌, map, ap, sym, subst, ◌∙◌, length}
use Rattle.std.specs.List.{All}
use Rattle.go_scanner.specs.declared.piece.Piece.{Piece}
use Rattle.go_scanner.specs.CutText.{HasTokens}
use Rattle.go_respelled.specs.Renamings.{moved_piece}
use Rattle.go_respelled.specs.Replaced.{FitsMoved}
use Rattle.go_respelled.proofs.Walked.{has_tokens, only_recut, tokens_fit}
use Rattle.go_respelled.proofs.respelling.respelled_pieces.Goals as goal

pub moved_tokens-requires-clause-fits : goal.moved_tokens-requires-clause-fits
moved_tokens-requires-clause-fits c =
    let edits = c.args.edits.now in
    let less : length c.args.new.now < 2 ^ 64 = subst (λ (n : ℕ). n < 2 ^ 64) c.len.ensures c.len.type_inv in
    subst (λ (ts : List Piece). All (FitsMoved edits) ts) (sym c.tokens.ensures.tokens)
    (tokens_fit c.args.old.now edits c.args.new.now c.file.ensures.cut c.requires less)

pub of_tokens-requires : goal.of_tokens-requires
of_tokens-requires c =
    let old = c.args.old.now in
    let edits = c.args.edits.now in
    let tokens = c.in_ok-tokens.tokens.items in
    subst (λ (text : List ℕ). HasTokens text tokens) (sym c.in_ok-clone.ensures.cases) (has_tokens old edits c.args.new.now tokens c.file.ensures.cut
    c.requires (c.in_ok-tokens.ensures ∙ ap (map (moved_piece edits)) c.tokens.ensures.tokens))

pub returns : goal.returns
returns c = only_recut c.args.old.now c.args.edits.now c.args.new.now c.of_tokens.result c.file.ensures.cut c.requires
    (c.of_tokens.ensures.text ∙ c.in_ok-clone.ensures.cases) c.of_tokens.ensures.cut
