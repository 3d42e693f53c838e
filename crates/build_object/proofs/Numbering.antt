-- Where places first stand in a list.
use Rattle.std.proofs.Common.{ℕ, ◌≡◌, ◌+◌, ◌==◌, ◌∷◌, ◌++◌, [], List, ap, sym, ◌∙◌, refl, length, suc, zero, Bool, true, false, Option, Some, None}
use Rattle.std.proofs.Common.{if◌then◌else◌, add-zero, arith}
use Rattle.build_object.specs.Numbering.{slot_from, first_of}

by_test : (b : Bool) (n : ℕ) (rest : Option ℕ) (here : Bool) (k : ℕ) →
    first_of (if b then Some n else rest) here k ≡ (if b then Some n else first_of rest here k)
by_test true n rest here k = refl
by_test false n rest here k = refl

-- one more place behind the others, at number n + length
pub slot_last : (n : ℕ) (ps : List ℕ) (p q : ℕ) → slot_from n (ps ++ (p ∷ [])) q ≡ first_of (slot_from n ps q) (p == q) (n + length ps)
slot_last n [] p q = elim (p == q) as (λ b. (if b then Some n else None) ≡ first_of None b (n + zero)) [ true ↦ ap Some (sym (add-zero n)) | false ↦ refl ]
slot_last n (x ∷ ps) p q = ap (λ r. if x == q then Some n else r) (slot_last (suc n) ps p q)
    ∙ (sym (by_test (x == q) n (slot_from (suc n) ps q) (p == q) (suc n + length ps))
    ∙ ap (first_of (if x == q then Some n else slot_from (suc n) ps q) (p == q)) (let h : suc n + length ps ≡ n + suc (length ps) = omega arith in h))
