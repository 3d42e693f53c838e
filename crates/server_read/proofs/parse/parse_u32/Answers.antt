-- The answers to the goals of `parse::parse_u32`.
use Rattle.server_read.proofs.Words.{u32_of}
use Rattle.server_read.proofs.parse.parse_u32.Goals as goal

pub returns : goal.returns
returns c =
    rw c.ok.ensures.value
    (u32_of c.args.text.now c.in_ok-parse_u64.field-0 c.try_from.result c.in_ok-parse_u64.ensures.0 c.in_ok-parse_u64.ensures.1 c.try_from.ensures)
