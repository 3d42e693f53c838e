-- The paths of the places and of the literal.
use Rattle.std.proofs.Common.{◌≡◌, ℕ, ◌<◌, ◌+◌, ◌⊎◌, inl, inr, List, [], length, take, get_or, sym, ap, subst, ◌∙◌}
use Rattle.std.specs.Prelude.{Contains, ◌↔◌}
use Rattle.base_lemmas.proofs.Elements.{nothing_in}
use Rattle.base_files.specs.declared.place.Place.{Place}
use Rattle.workspace_check.proofs.Members.{taken_or_next, still_taken, next_taken}
use Rattle.refs_binding.specs.Bindings.{AddsAll}
use Rattle.refs_binding.proofs.AddingAll.{all_as, all_then}
use Rattle.refactor_rename.specs.declared.renamed.Renamed.{Renamed}
use Rattle.refactor_rename.specs.Changes.{IsPathOfPlace, IsPathOfLiteral, IsPathToEdit}

-- one place further
pub more_places : (xs : List Place) (k : ℕ) (p : Place) (a b c : List (List ℕ)) → k < length xs → p ≡ get_or xs k p →
    AddsAll a b (IsPathOfPlace (take k xs)) → AddsAll b c (λ q. p.path ≡ q) → AddsAll a c (IsPathOfPlace (take (k + 1) xs))
more_places xs k p a b c lt is h next =
    all_as a c (λ q. IsPathOfPlace (take k xs) q ⊎ (p.path ≡ q)) (IsPathOfPlace (take (k + 1) xs))
    (λ q x. elim x [
      | inl old ↦ (old.0, (still_taken xs k p old.0 lt old.1.0, old.1.1))
      | inr same ↦ (p, (subst (Contains (take (k + 1) xs)) (sym is) (next_taken xs k p lt), same))
    ])
    (λ q x. elim (taken_or_next xs k p x.0 lt x.1.0) [
      | inl old ↦ inl (x.0, (old, x.1.1))
      | inr same ↦ inr (ap (λ (y : Place). y.path) (is ∙ same) ∙ x.1.1)
    ])
    (all_then a b c (IsPathOfPlace (take k xs)) (λ q. p.path ≡ q) h next)

-- all that were added to nothing
pub all_paths : (r : Renamed) (a b c d : List (List ℕ)) → a ≡ [] → AddsAll a b (IsPathOfPlace r.places) → AddsAll b c (IsPathOfLiteral r.literal) →
    ((q : List ℕ) → Contains d q ↔ Contains c q) → (q : List ℕ) → Contains d q ↔ IsPathToEdit r q
all_paths r a b c d empty h k same q =
    let all = all_then a b c (IsPathOfPlace r.places) (IsPathOfLiteral r.literal) h k in (
      (λ there. elim (all.only q ((same q).0 there)) [ inl old ↦ absurd (nothing_in q (subst (λ l. Contains l q) empty old)) | inr is ↦ is ]),
      (λ is. (same q).1 (all.holds q is)),
    )
