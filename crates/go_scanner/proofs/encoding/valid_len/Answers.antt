-- The answers to the goals of `encoding::valid_len`.
use Rattle.go_scanner.proofs.EncodingLemmas.{valid_from}
use Rattle.go_scanner.proofs.encoding.valid_len.Goals as goal

pub returns-in-Err : goal.returns-in-Err
returns-in-Err c = rw c.valid_up_to.ensures (valid_from c.args.text.now _ c.in-Err.ensures.cases.1)
