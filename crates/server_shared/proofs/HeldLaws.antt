-- The Jobs in hand at a seat, as its receipts grow.
use Rattle.std.proofs.Common.{◌≡◌, ℕ, List, [], ◌∷◌, ◌++◌, refl, sym, ap, ◌∙◌}
use Rattle.server_shared.specs.declared.receipt.Receipt.{Receipt}
use Rattle.server_shared.specs.Held.{jobs_in_hand, jobs_left, jobs_on}

-- one receipt more
pub jobs_on-append : (jobs : ℕ) (xs : List Receipt) (r : Receipt) → jobs_on jobs (xs ++ r ∷ []) ≡ jobs_left r.entry.line.kind r.entry.line.out (jobs_on jobs xs)
jobs_on-append jobs [] r = refl
jobs_on-append jobs (x ∷ xs) r = jobs_on-append (jobs_left x.entry.line.kind x.entry.line.out jobs) xs r

-- the count of Jobs in hand follows the receipts
pub held_on : (old mid new : List Receipt) (r : Receipt) (jobs left : ℕ) → jobs ≡ jobs_in_hand old
    → left ≡ jobs_left r.entry.line.kind r.entry.line.out jobs → mid ≡ old → new ≡ mid ++ r ∷ []
    → left ≡ jobs_in_hand new
held_on old mid new r jobs left is after same grown =
    after ∙ (ap (jobs_left r.entry.line.kind r.entry.line.out) is ∙ (sym (jobs_on-append 0 old r)
    ∙ sym (ap jobs_in_hand (grown ∙ ap (λ xs. xs ++ r ∷ []) same))))
