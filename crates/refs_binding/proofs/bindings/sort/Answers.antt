-- The answers to the goals of `bindings::sort`.
use Rattle.std.proofs.Common.{◌≡◌, ap, rules}
use Rattle.std.specs.Ordering.{is_lt}
use Rattle.std.proofs.lemmas.List.Sorted.{ranks_by, answers_always, Contains-permutation, IsPermutation-sym}
use Rattle.refs_binding.specs.contracts.place_key.PlaceKeyOrd.TheImpl as order
use Rattle.refs_binding.specs.Bindings.{bound_place}
use Rattle.refs_binding.specs.Places.{place_cmp}
use Rattle.refs_binding.proofs.PlaceOrder.{place_cmp_total}
use Rattle.refs_binding.proofs.bindings.sort.Goals as goal

pub returns-clause-order : goal.returns-clause-order
returns-clause-order c =
    c.sort_unstable_by.ensures.sorted (λ a b. is_lt (place_cmp (bound_place a) (bound_place b))) (ranks_by place_cmp_total bound_place)
    (answers_always _ _ _ (λ f a r q k. let e : r ≡ order.ghosts.cmp a.0.now.spot a.1.0.now.spot = search rules in ap is_lt e))

pub returns-clause-same : goal.returns-clause-same
returns-clause-same c = λ b. (
  (λ h. Contains-permutation _ _ b (IsPermutation-sym _ _ c.sort_unstable_by.ensures.permutation) h),
  (λ h. Contains-permutation _ _ b c.sort_unstable_by.ensures.permutation h),
)
