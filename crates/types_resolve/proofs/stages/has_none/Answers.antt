-- The answers to the goals of `stages::has_none`.
use Rattle.std.proofs.Common.{◌≡◌, ◌↔◌, ◌∙◌, Bool, true, List, [], ◌∷◌, length, nat_eq, sym, refl, subst, eqb→eq, arith, T}
use Rattle.types_declared.specs.declared.fault.Fault.{Fault}
use Rattle.types_resolve.proofs.stages.has_none.Goals as goal

none_from : (xs : List Fault) (b : Bool) → b ≡ nat_eq (length xs) 0 → (b ≡ true) ↔ (xs ≡ [])
none_from [] b e = ((λ t. refl), (λ q. e))
none_from (x ∷ xs) b e = (
  (λ t. let n : length (x ∷ xs) ≡ 0 = eqb→eq (length (x ∷ xs)) 0 (subst T (sym (sym e ∙ t)) tt) in absurd (omega arith)),
  (λ q. let z : ⊥ = cc in absurd z),
)

pub returns : goal.returns
returns c = none_from c.args.found.now c.is_empty.result c.is_empty.ensures
