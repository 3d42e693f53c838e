-- The answers to the goals of `token_edits::is_one_string`.
use Rattle.std.proofs.Common.{◌∙◌}
use Rattle.go_respelled.proofs.Walked.{first_string}
use Rattle.go_respelled.proofs.token_edits.is_one_string.Goals as goal

pub returns-then-token-eq0 : goal.returns-then-token-eq0
returns-then-token-eq0 c end =
    first_string c.args.pieces.now c.tokens-tokens.result.now _ c.piece-token.result c.text.result.now c.bytes.result.now c.is_empty.result
    c.is_empty.ensures c.if-is_empty.false c.tokens-tokens.ensures.tokens (c.piece-token.ensures ∙ c.index-tokens-0.is) c.text.ensures.bytes
    c.text.ensures.class c.in-InterpretedString.is c.if-token-eq0.true (c.bytes.ensures ∙ c.file.ensures.text) end c.file.ensures.cut
