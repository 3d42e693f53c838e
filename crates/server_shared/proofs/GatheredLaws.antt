-- The receipts that seats still hold, as they are gathered.
use Rattle.std.proofs.Common.{◌≡◌, ◌+◌, ◌≤◌, ◌⊎◌, List, [], ◌∷◌, ◌++◌, length, sym, ap, subst, ◌∙◌, arith, append-nil, length-append, ⊎_elim}
use mathlib.Core.Logic.{∥∥₁_map₂}
use Rattle.std.proofs.lemmas.List.Sums.{sum_by_push}
use Rattle.server_shared.specs.Past.{IsHandedIn}
use Rattle.server_shared.specs.Settled.{receipt_count}
use Rattle.server_shared.specs.declared.receipt.Receipt.{Receipt}
use Rattle.server_shared.proofs.PastLaws.{handed_more}

-- both are known, in whatever order
pub both_handed : (P : List Receipt → Type 0) (receipts piece : List Receipt) → ∥ IsHandedIn P receipts ∥₁ → ∥ P piece ∥₁ →
    ∥ IsHandedIn P (receipts ++ piece) ∥₁
both_handed P receipts piece h p =
    ∥∥₁_map₂ h p (λ (x : IsHandedIn P receipts) (y : P piece). handed_more P receipts piece x y)

-- one seat more was gathered, or its receipts were dropped for want of memory
pub gathered_handed : (P : List Receipt → Type 0) (before after seat : List Receipt) →
    (after ≡ before ++ seat) ⊎ ((after ≡ before) × (seat ≡ [] → ⊥)) → ∥ IsHandedIn P before ∥₁ → ∥ P seat ∥₁ → ∥ IsHandedIn P after ∥₁
gathered_handed P before after seat added handed known = ⊎_elim
    (λ (e : after ≡ before ++ seat). subst (λ (x : List Receipt). ∥ IsHandedIn P x ∥₁) (sym e) (both_handed P before seat handed known))
    (λ (e : (after ≡ before) × (seat ≡ [] → ⊥)). subst (λ (x : List Receipt). ∥ IsHandedIn P x ∥₁) (sym e.0) handed) added

pub gathered_length : (before after seat : List Receipt) → (after ≡ before ++ seat) ⊎ ((after ≡ before) × (seat ≡ [] → ⊥)) →
    length after ≤ length before + length seat
gathered_length before after seat added = ⊎_elim
    (λ (e : after ≡ before ++ seat). omega (arith, ap length e, length-append before seat))
    (λ (e : (after ≡ before) × (seat ≡ [] → ⊥)). omega (arith, ap length e.0)) added

pub gathered_whole : (before after seat : List Receipt) → (after ≡ before ++ seat) ⊎ ((after ≡ before) × (seat ≡ [] → ⊥)) → seat ≡ [] → after ≡ before
gathered_whole before after seat added none = ⊎_elim
    (λ (e : after ≡ before ++ seat). e ∙ ap (λ (x : List Receipt). before ++ x) none ∙ append-nil before)
    (λ (e : (after ≡ before) × (seat ≡ [] → ⊥)). e.0) added

-- the seats without the last one
pub count_popped : (seats rest : List (List Receipt)) (seat : List Receipt) → seats ≡ rest ++ seat ∷ [] →
    receipt_count seats ≡ receipt_count rest + length seat
count_popped seats rest seat e = ap receipt_count e ∙ sum_by_push length rest seat
