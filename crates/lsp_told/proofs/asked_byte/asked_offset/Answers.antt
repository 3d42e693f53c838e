-- The answers to the goals of `asked_byte::asked_offset`.
use Rattle.lsp_told.proofs.asked_byte.asked_offset.Goals as goal

pub returns : goal.returns
returns c = (c.offset_at.result, c.offset_at.ensures, c.identifier_begin.ensures.begin)
