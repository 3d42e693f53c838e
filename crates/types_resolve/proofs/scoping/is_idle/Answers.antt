-- The answers to the goals of `scoping::is_idle`.
use Rattle.std.proofs.Common.{◌≡◌, ◌↔◌, Bool, true, false, not, IsTrue, refl}
use Rattle.types_resolve.proofs.scoping.is_idle.Goals as goal

idle_from : (P : Type 0) (b : Bool) → ((b ≡ true) ↔ P) → IsTrue (not b) ↔ (P → ⊥)
idle_from P true h = ((λ n p. let z : ⊥ = cc in z), (λ f. absurd (f (h.0 refl))))
idle_from P false h = ((λ n p. let t : false ≡ true = h.1 p in let z : ⊥ = cc in z), (λ f. refl))

pub returns : goal.returns
returns c = idle_from _ _ (c.requires.used.each c.args.d c.requires.in_range)
