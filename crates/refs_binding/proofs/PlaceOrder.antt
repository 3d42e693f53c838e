-- The order of places.
use Rattle.std.proofs.Common.{◌≡◌, ap, refl, ◌∙◌}
use Rattle.std.specs.declared.cmp.Ordering.{Ordering}
use Rattle.std.specs.declared.cmp.Ordering.TheVariants.{Less, Equal, Greater}
use Rattle.std.specs.Ordering.{nat_cmp, ordering_reverse}
use Rattle.std.specs.Cmp.{IsTotalOrder, on_total, then_total, nat_cmp_total}
use Rattle.std.specs.Cmp.Lexicographic.{nat_list_cmp_total}
use Rattle.std.specs.FinMap.{nat_cmp-IsAntisymmetric}
use Rattle.base_files.specs.Workspace.{path_cmp}
use Rattle.base_files.specs.declared.place.Place.{Place}
use Rattle.base_files.proofs.WorkspaceLaws.{path_cmp_exact}
use Rattle.workspace_check.proofs.FaultOrder.{both_equal}
use Rattle.refs_binding.specs.Places.{place_cmp}

pub place_cmp_total : IsTotalOrder place_cmp
place_cmp_total = then_total (on_total (λ (p : Place). p.path) nat_list_cmp_total) (on_total (λ (p : Place). p.offset) nat_cmp_total)

pub place_is : (a b : Place) → a.path ≡ b.path → a.offset ≡ b.offset → a ≡ b
place_is a b e f = ap (λ p. record { path = p; offset = a.offset }) e ∙ ap (λ o. record { path = b.path; offset = o }) f

-- places that compare alike are one
pub place_cmp_exact : (a b : Place) → place_cmp a b ≡ Equal → a ≡ b
place_cmp_exact a b e =
    let both = both_equal (path_cmp a.path b.path) (nat_cmp a.offset b.offset) e in
    place_is a b (path_cmp_exact a.path b.path both.0) (nat_cmp-IsAntisymmetric a.offset b.offset both.1)

by_answer : (o : Ordering) (a b : Place) → place_cmp a b ≡ o → (place_cmp b a ≡ Less → ⊥) → (place_cmp a b ≡ Less → ⊥) → a ≡ b
by_answer Less a b e f g = absurd (g e)
by_answer Equal a b e f g = place_cmp_exact a b e
by_answer Greater a b e f g = absurd (f (place_cmp_total.antisymm b a ∙ ap ordering_reverse e))

-- of two places one comes before the other, or they are one
pub neither_before : (a b : Place) → (place_cmp a b ≡ Less → ⊥) → (place_cmp b a ≡ Less → ⊥) → a ≡ b
neither_before a b g f = by_answer (place_cmp a b) a b refl f g
