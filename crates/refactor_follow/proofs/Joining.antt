-- The earlier one of two first conflicts is the first of both kinds.
use Rattle.std.proofs.Common.{◌≡◌, inl, inr, Bool, true, false, if◌then◌else◌, refl, sym, ap, ◌∙◌}
use Rattle.std.specs.Prelude.{Option, Some, None}
use Rattle.std.specs.Ordering.{is_lt}
use Rattle.std.specs.declared.cmp.Ordering.TheVariants.{Less}
use Rattle.std.proofs.lemmas.Bool.{cases_Bool, true≢false}
use Rattle.base_lemmas.proofs.Tests.{less_from_test}
use Rattle.base_files.specs.declared.place.Place.{Place}
use Rattle.refs_binding.specs.Places.{place_cmp}
use Rattle.refs_binding.proofs.PlaceOrder.{place_cmp_total}
use Rattle.refactor_conflict.specs.Firsts.{IsNotBefore}
use Rattle.refactor_conflict.specs.declared.conflict.Conflict.{Conflict}
use Rattle.refactor_conflict.proofs.Firsts.{not_before}
use Rattle.law_agreement.specs.ScopeConflicts.{IsFirstBy, earlier_conflict}

is_less : (x b : Place) → ((place_cmp x b ≡ Less → ⊥) → ⊥) → place_cmp x b ≡ Less
is_less x b h = elim (cases_Bool (is_lt (place_cmp x b))) [
  | inl less ↦ less_from_test (place_cmp x b) less
  | inr not ↦ absurd (h (λ less. true≢false (sym (ap is_lt less) ∙ not)))
]

-- what holds of conflicts and places weakens
pub first_weaker : (C U : Conflict → Type 0) (F H : Place → Type 0) → ((c : Conflict) → C c → U c) → ((place : Place) → F place → H place) →
    (told : Option Conflict) → IsFirstBy C F told → IsFirstBy U H told
first_weaker C U F H c f None h = λ place. f place (h place)
first_weaker C U F H c f (Some told) h = (c told h.0, λ place before. f place (h.1 place before))

module _ (C D U : Conflict → Type 0) (F G H : Place → Type 0) (one : (c : Conflict) → C c → U c) (other : (c : Conflict) → D c → U c)
    (both : (place : Place) → F place → G place → H place) where
  choose : (a b : Conflict) → IsFirstBy C F (Some a) → IsFirstBy D G (Some b) → (t : Bool) → is_lt (place_cmp b.used a.used) ≡ t →
      IsFirstBy U H (if t then Some b else Some a)
  choose a b h k true less =
      let ahead : place_cmp b.used a.used ≡ Less = less_from_test (place_cmp b.used a.used) less in
      (other b k.0, λ place before. both place (h.1 place (place_cmp_total.trans place b.used a.used before ahead)) (k.1 place before))
  choose a b h k false less =
      let later : IsNotBefore b.used a.used = (λ ahead. true≢false (sym (ap is_lt ahead) ∙ less)) in (
        one a h.0,
        λ place before.
            both place (h.1 place before) (k.1 place (is_less place b.used (λ not. not_before place b.used a.used not later before))),
      )

  pub first_joined : (a b : Option Conflict) → IsFirstBy C F a → IsFirstBy D G b → IsFirstBy U H (earlier_conflict a b)
  first_joined None None h k = λ place. both place (h place) (k place)
  first_joined None (Some b) h k = (other b k.0, λ place before. both place (h place) (k.1 place before))
  first_joined (Some a) None h k = (one a h.0, λ place before. both place (h.1 place before) (k place))
  first_joined (Some a) (Some b) h k = choose a b h k (is_lt (place_cmp b.used a.used)) refl
