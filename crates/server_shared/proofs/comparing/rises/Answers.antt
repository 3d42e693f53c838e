use Rattle.std.proofs.Common.{rules, nat_lt}
use Rattle.std.proofs.lemmas.List.Sorted.{answers_always}
use Rattle.server_shared.proofs.ReceiptLaws.{rises_is}
use Rattle.server_shared.proofs.comparing.rises.Goals as goal

pub returns : goal.returns
returns c = rises_is c.args.receipts.now _ (c.is_sorted_by.ensures.cases (λ r s. nat_lt r.index s.index)
    (answers_always _ _ _ (λ f a r g called. search rules)))
