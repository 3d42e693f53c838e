-- The answers to the goals of `reading::read_request`.
use Rattle.std.proofs.Common.{map, string_bytes}
use Rattle.server_words.proofs.Faults.{told_fault}
use Rattle.server_words.proofs.reading.read_request.Goals as goal

pub returns : goal.returns
returns c = told_fault (map string_bytes c.args.words.now) c.in-Err.error c.in_ok-as_fault-in-Err.field-0 c.in-Err.ensures.fails c.in_ok-as_fault-in-Err.ensures
