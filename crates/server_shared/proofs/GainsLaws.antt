-- Receipts gained one after another.
use Rattle.std.proofs.Common.{List, ◌++◌, ap, ◌∙◌, append_assoc}
use Rattle.std.proofs.lemmas.List.Elements.{All-append}
use Rattle.server_shared.specs.declared.receipt.Receipt.{Receipt}
use Rattle.server_shared.specs.Call.{Gains}

pub gains_more : (P : Receipt → Type 0) (a b c : List Receipt) → Gains P a b → Gains P b c → Gains P a c
gains_more P a b c first more = (
  first.0 ++ more.0,
  more.1 ∙ (ap (λ xs. xs ++ more.0) first.1 ∙ append_assoc a first.0 more.0),
  All-append P first.0 more.0 first.2 more.2,
)
