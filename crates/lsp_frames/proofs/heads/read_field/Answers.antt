-- The answers to the goals of `heads::read_field`.
use Rattle.lsp_frames.proofs.HeadSoFar.{whole_field}
use Rattle.lsp_frames.proofs.heads.read_field.Goals as goal

pub returns-in-Ok-Whole-clause-field : goal.returns-in-Ok-Whole-clause-field
returns-in-Ok-Whole-clause-field g c =
    whole_field (g.S.ByteSource.remaining c.args.source.now) (g.S.ByteSource.remaining c.read_line.new.source) c.deref.result.now c.read_header.result
    (rw c.deref.ensures.value (rw c.in-Ok-Whole.field-0-is at c.in-Ok-Whole.ensures.line)) c.read_header.ensures
