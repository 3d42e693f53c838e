-- The sort is by the index.
use Rattle.std.proofs.Common.{rules}
use Rattle.std.proofs.lemmas.List.Sorted.{IsNonDecreasingBy-from_sort_by_key}
use Rattle.server_shared.specs.declared.receipt.Receipt.{Receipt}
use Rattle.server_shared.proofs.comparing.sort.Goals as goal

pub returns-clause-sorted : goal.returns-clause-sorted
returns-clause-sorted c =
    IsNonDecreasingBy-from_sort_by_key (λ (r : Receipt). r.index) _ c.sort_unstable_by_key.ensures.sorted (λ a r q k. search rules)
