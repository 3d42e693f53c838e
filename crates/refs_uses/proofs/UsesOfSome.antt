-- The uses of several declarations, found one after the other.
use Rattle.std.proofs.Common.{◌≡◌, ℕ, ◌<◌, ◌+◌, ◌⊎◌, inl, inr, List, [], ◌∷◌, length, take, get_or, sym, subst, ◌∙◌}
use Rattle.std.specs.Prelude.{Contains, ◌↔◌}
use Rattle.std.specs.List.Sorted.{IsStrictlySortedBy}
use Rattle.base_lemmas.proofs.Elements.{nothing_in, first_in, first_or_later}
use Rattle.base_files.specs.Workspace.{Workspace}
use Rattle.base_files.specs.declared.place.Place.{Place}
use Rattle.workspace_check.specs.Verdicts.{Verdicts}
use Rattle.workspace_check.proofs.Members.{taken_or_next, still_taken, next_taken}
use Rattle.refs_binding.specs.declared.declaration.Declaration.{Declaration}
use Rattle.refs_binding.specs.declared.place_key.PlaceKey.{PlaceKey}
use Rattle.refs_binding.specs.Places.{place_cmp}
use Rattle.refs_binding.specs.Steps.{AddsPlaces, place_of}
use Rattle.refs_binding.specs.Uses.{IsUseOf}
use Rattle.refs_binding.proofs.Adding.{adds_none, adds_as, adds_then}
use Rattle.refs_uses.specs.UsesOfEach.{IsUseOfSome, ListsUsesOfEach}

-- no declaration has uses
pub no_uses : (w : Workspace) (known : Verdicts) (a : List PlaceKey) → AddsPlaces a a (IsUseOfSome w known [])
no_uses w known a = adds_none a (IsUseOfSome w known []) (λ place u. absurd (nothing_in u.declaration u.among))

-- the uses of one declaration more
pub more_uses : (w : Workspace) (known : Verdicts) (set : List Declaration) (k : ℕ) (d : Declaration) (a b c : List PlaceKey) → k < length set →
    d ≡ get_or set k d → AddsPlaces a b (IsUseOfSome w known (take k set)) → AddsPlaces b c (IsUseOf w known d) →
    AddsPlaces a c (IsUseOfSome w known (take (k + 1) set))
more_uses w known set k d a b c lt is h next =
    adds_as a c (λ place. IsUseOfSome w known (take k set) place ⊎ IsUseOf w known d place) (IsUseOfSome w known (take (k + 1) set))
    (λ place x. elim x [
      | inl old ↦ record { declaration = old.declaration; among = still_taken set k d old.declaration lt old.among; is_use = old.is_use }
      | inr here ↦ record { declaration = d; among = subst (Contains (take (k + 1) set)) (sym is) (next_taken set k d lt); is_use = here }
    ])
    (λ place x. elim (taken_or_next set k d x.declaration lt x.among) [
      | inl old ↦ inl (record { declaration = x.declaration; among = old; is_use = x.is_use })
      | inr same ↦ inr (subst (λ e. IsUseOf w known e place) (sym (is ∙ same)) x.is_use)
    ])
    (adds_then a b c (IsUseOfSome w known (take k set)) (IsUseOf w known d) h next)

abbrev key_at : Place → PlaceKey
key_at place = record { path = place.path; offset = place.offset }

-- the sorted list of the places that were found
pub lists_uses_of_each : (w : Workspace) (known : Verdicts) (set : List Declaration) (places : List Place) (old found : List PlaceKey) → old ≡ [] →
    IsStrictlySortedBy place_cmp places → ((s : PlaceKey) → Contains places (place_of s) ↔ Contains found s) →
    AddsPlaces old found (IsUseOfSome w known set) → ListsUsesOfEach w known set places
lists_uses_of_each w known set places old found e up held added = record {
  in_order = up;
  each = λ place. (
    (λ h. elim (added.only (key_at place) ((held (key_at place)).0 h)) [
      | inl none ↦ absurd (nothing_in (key_at place) (subst (λ l. Contains l (key_at place)) e none))
      | inr q ↦ q
    ]),
    (λ h. (held (key_at place)).1 (added.holds (key_at place) h)),
  );
}

-- one declaration alone is in its list
pub only_one : (d e : Declaration) → Contains (d ∷ []) e → e ≡ d
only_one d e h = elim (first_or_later d [] e h) [ inl same ↦ sym same | inr later ↦ absurd (nothing_in e later) ]

-- and its uses are those of the list
pub uses_of_one : (w : Workspace) (known : Verdicts) (d : Declaration) (place : Place) → IsUseOfSome w known (d ∷ []) place ↔ IsUseOf w known d place
uses_of_one w known d place = (
  (λ u. subst (λ e. IsUseOf w known e place) (only_one d u.declaration u.among) u.is_use),
  (λ here. record { declaration = d; among = first_in d []; is_use = here }),
)
