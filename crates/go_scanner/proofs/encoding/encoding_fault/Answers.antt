-- The answers to the goals of `encoding::encoding_fault`.
use Rattle.go_scanner.proofs.EncodingLemmas.{zero_first, valid_ends, all_valid}
use Rattle.go_scanner.proofs.encoding.encoding_fault.Goals as goal

pub returns-in-Some : goal.returns-in-Some
returns-in-Some c = zero_first c.args.text.now c.valid_len-valid.result c.in-Some.zero c.valid_len-valid.ensures c.in-Some.ensures

pub returns-in-None : goal.returns-in-None
returns-in-None c = valid_ends c.args.text.now c.valid_len-valid.result c.valid_len-valid.ensures c.if-valid-text.true c.in-None.ensures

pub returns-in-None-2 : goal.returns-in-None-2
returns-in-None-2 c = all_valid c.args.text.now c.valid_len-valid.result c.valid_len-valid.ensures c.if-valid-text.false c.in-None-2.ensures
