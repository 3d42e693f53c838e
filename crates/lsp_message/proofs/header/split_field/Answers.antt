-- The answers to the goals of `header::split_field`.
use Rattle.std.proofs.Common.{sym}
use Rattle.lsp_message.proofs.Heading.{no_parts, two_parts}
use Rattle.lsp_message.proofs.header.split_field.Goals as goal

pub returns-then-at-line : goal.returns-then-at-line
returns-then-at-line c = sym (two_parts c.args.line.now c.colon_at-at.result c.colon_at-at.ensures.len c.if-at-line.true)

pub returns-else-at-line : goal.returns-else-at-line
returns-else-at-line c = sym (no_parts c.args.line.now c.colon_at-at.result c.colon_at-at.ensures.len c.if-at-line.false)
