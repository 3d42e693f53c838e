-- The answers to the goals of `header::size`.
use Rattle.lsp_message.proofs.Heading.{digits_are_utf8}
use Rattle.lsp_message.proofs.header.size.Goals as goal

pub returns-in-Err : goal.returns-in-Err
returns-in-Err c = λ number h. c.in-Err.ensures.cases.0 (digits_are_utf8 c.args.text.now h.0.1)
