-- The tickets of the Jobs that are out rise, and are less than the next one. So a ticket is that of one Job.
use Rattle.std.proofs.Common.{◌≡◌, ℕ, zero, suc, ◌+◌, ◌≤◌, ◌<◌, List, [], ◌∷◌, ◌++◌, Some, slice_get, remove, refl, sym, ap, subst, ◌∙◌, arith}
use Rattle.std.proofs.lemmas.Option.{none-some, same_Some}
use Rattle.build_unit.specs.declared.out.JobLabel.{JobLabel}

-- The tickets rise from `least` on, and are less than `next`.
abbrev pub TicketsRise : (least next : ℕ) → List JobLabel → Type 0
TicketsRise least next [] = least ≤ next
TicketsRise least next (x ∷ xs) = (least ≤ x.ticket) × TicketsRise (x.ticket + 1) next xs

rise_from : (least more next : ℕ) (xs : List JobLabel) → least ≤ more → TicketsRise more next xs → TicketsRise least next xs
rise_from least more next [] le rise = omega (arith, le, rise)
rise_from least more next (x ∷ xs) le rise = (omega (arith, le, rise.0), rise.1)

pub rise_push : (least next : ℕ) (xs : List JobLabel) (y : JobLabel) → y.ticket ≡ next → TicketsRise least next xs →
    TicketsRise least (next + 1) (xs ++ y ∷ [])
rise_push least next [] y is rise = (omega (arith, is, rise), omega (arith, is))
rise_push least next (x ∷ xs) y is rise = (rise.0, rise_push (x.ticket + 1) next xs y is rise.1)

pub rise_remove : (least next : ℕ) (xs : List JobLabel) (k : ℕ) (y : JobLabel) → slice_get xs k ≡ Some y → TicketsRise least next xs →
    TicketsRise least next (remove xs k)
rise_remove least next [] k y at rise = absurd (none-some y at)
rise_remove least next (x ∷ xs) zero y at rise = rise_from least (x.ticket + 1) next xs (omega (arith, rise.0)) rise.1
rise_remove least next (x ∷ xs) (suc k) y at rise = (rise.0, rise_remove (x.ticket + 1) next xs k y at rise.1)

at_least : (least next : ℕ) (xs : List JobLabel) (k : ℕ) (y : JobLabel) → slice_get xs k ≡ Some y → TicketsRise least next xs → least ≤ y.ticket
at_least least next [] k y at rise = absurd (none-some y at)
at_least least next (x ∷ xs) zero y at rise = subst (λ (z : JobLabel). least ≤ z.ticket) (same_Some x y at) rise.0
at_least least next (x ∷ xs) (suc k) y at rise = let more = at_least (x.ticket + 1) next xs k y at rise.1 in omega (arith, more, rise.0)

-- two Jobs of one ticket are out at one place
pub one_place : (least next : ℕ) (xs : List JobLabel) (i k : ℕ) (a b : JobLabel) → slice_get xs i ≡ Some a → slice_get xs k ≡ Some b →
    a.ticket ≡ b.ticket → TicketsRise least next xs → i ≡ k
one_place least next [] i k a b at there same rise = absurd (none-some a at)
one_place least next (x ∷ xs) zero zero a b at there same rise = refl
one_place least next (x ∷ xs) zero (suc k) a b at there same rise =
    let first : x.ticket ≡ a.ticket = ap (λ (z : JobLabel). z.ticket) (same_Some x a at) in
    let later = at_least (x.ticket + 1) next xs k b there rise.1 in absurd (omega (arith, first, same, later))
one_place least next (x ∷ xs) (suc i) zero a b at there same rise =
    let first : x.ticket ≡ b.ticket = ap (λ (z : JobLabel). z.ticket) (same_Some x b there) in
    let later = at_least (x.ticket + 1) next xs i a at rise.1 in absurd (omega (arith, first, same, later))
one_place least next (x ∷ xs) (suc i) (suc k) a b at there same rise = ap suc (one_place (x.ticket + 1) next xs i k a b at there same rise.1)
