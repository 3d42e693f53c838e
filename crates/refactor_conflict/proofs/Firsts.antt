-- The order of places.
use Rattle.std.proofs.Common.{◌≡◌, ◌∙◌, true, false, sym, ap, subst, refl}
use Rattle.std.specs.declared.cmp.Ordering.{Ordering}
use Rattle.std.specs.declared.cmp.Ordering.TheVariants.{Less, Equal, Greater}
use Rattle.std.specs.Ordering.{is_lt, ordering_reverse}
use Rattle.std.specs.Cmp.{tied_itself}
use Rattle.std.proofs.lemmas.Bool.{true≢false}
use Rattle.base_files.specs.declared.place.Place.{Place}
use Rattle.refs_binding.specs.Places.{place_cmp}
use Rattle.refs_binding.proofs.PlaceOrder.{place_cmp_total, place_cmp_exact}
use Rattle.refactor_conflict.specs.Firsts.{IsNotBefore}

equal_less : Equal ≡ Less → ⊥
equal_less e = true≢false (sym (ap is_lt e))

greater_less : Greater ≡ Less → ⊥
greater_less e = true≢false (sym (ap is_lt e))

pub itself : (x : Place) → IsNotBefore x x
itself x less = equal_less (sym (tied_itself place_cmp_total x) ∙ less)

-- A place that comes after another does not come before it.
pub behind : (x y : Place) → place_cmp x y ≡ Less → IsNotBefore y x
behind x y less back = greater_less (sym (place_cmp_total.antisymm y x ∙ ap ordering_reverse less) ∙ back)

-- The order of places is transitive.
pub not_before : (z y x : Place) → IsNotBefore z y → IsNotBefore y x → IsNotBefore z x
not_before z y x h k less = by_answer (place_cmp x y) refl
  where
    by_answer : (o : Ordering) → place_cmp x y ≡ o → ⊥
    by_answer Less e = h (place_cmp_total.trans z x y less e)
    by_answer Equal e = h (subst (λ p. place_cmp z p ≡ Less) (place_cmp_exact x y e) less)
    by_answer Greater e = k (place_cmp_total.antisymm y x ∙ ap ordering_reverse e)
