-- The first place found so far, one step after another.
use Rattle.std.proofs.Common.{◌≡◌, ◌⊎◌, inl, inr, sym, ap, subst, ◌∙◌}
use Rattle.std.specs.Prelude.{Option, Some, None}
use Rattle.std.specs.declared.cmp.Ordering.TheVariants.{Less}
use Rattle.std.proofs.lemmas.Option.{none-some, same_Some}
use Rattle.base_files.specs.declared.place.Place.{Place}
use Rattle.refs_binding.specs.Places.{place_cmp}
use Rattle.refs_binding.proofs.PlaceOrder.{place_cmp_total}
use Rattle.refactor_conflict.proofs.Firsts.{itself}
use Rattle.refactor_coupled.specs.FirstTurns.{IsBeforeFirst, KeepsFirst, KeepsFirstOf, KeepsFound}

before_earlier : (place other : Place) (old : Option Place) → IsBeforeFirst place old → place_cmp other place ≡ Less → IsBeforeFirst other old
before_earlier place other None h less = tt
before_earlier place other (Some first) h less = place_cmp_total.trans other place first less h

-- a place before the first one becomes the first
pub earlier_kept : (place : Place) (old : Option Place) → IsBeforeFirst place old → KeepsFirst place old (Some place)
earlier_kept place old h = record {
  from = λ other e. inr (sym (same_Some place other e));
  none_before = λ other e less. itself place (subst (λ p. place_cmp p place ≡ Less) e less);
  kept = λ other less. before_earlier place other old h less;
}

-- a place that is not before it changes nothing
pub later_kept : (place : Place) (old : Option Place) → (IsBeforeFirst place old → ⊥) → KeepsFirst place old old
later_kept place old h = record {
  from = λ other e. inl e;
  none_before = λ other e before. h (subst (λ p. IsBeforeFirst p old) e before);
  kept = λ other before. before;
}

-- one step after another
pub kept_then : (P Q : Place → Type 0) (a b c : Option Place) → KeepsFirstOf P a b → KeepsFirstOf Q b c → KeepsFirstOf (λ place. P place ⊎ Q place) a c
kept_then P Q a b c h k = record {
  from = λ place e. elim (k.from place e) [
    | inl was ↦ elim (h.from place was) [ inl first ↦ inl first | inr p ↦ inr (inl p) ]
    | inr q ↦ inr (inr q)
  ];
  none_before = λ place m before. elim m [ inl p ↦ h.none_before place p (k.kept place before) | inr q ↦ k.none_before place q before ];
  kept = λ place before. h.kept place (k.kept place before);
}

-- The places may be given by an equivalent condition.
pub kept_as : (P Q : Place → Type 0) (a b : Option Place) → ((place : Place) → P place → Q place) → ((place : Place) → Q place → P place) →
    KeepsFirstOf P a b → KeepsFirstOf Q a b
kept_as P Q a b to back h = record {
  from = λ place e. elim (h.from place e) [ inl was ↦ inl was | inr p ↦ inr (to place p) ];
  none_before = λ place q before. h.none_before place (back place q) before;
  kept = h.kept;
}

-- without such places nothing changes
pub kept_none : (P : Place → Type 0) (a : Option Place) → ((place : Place) → P place → ⊥) → KeepsFirstOf P a a
kept_none P a none = record {
  from = λ place e. inl e;
  none_before = λ place p before. none place p;
  kept = λ place before. before;
}

-- one that was found, or none
pub found_kept : (found : Option Place) (place : Place) (old new : Option Place) → found ≡ Some place → KeepsFirst place old new → KeepsFound found old new
found_kept found place old new is h =
    kept_as (λ other. other ≡ place) (λ other. found ≡ Some other) old new (λ other e. is ∙ ap Some (sym e))
    (λ other e. same_Some other place (sym e ∙ is)) h

pub nothing_found : (found : Option Place) (old : Option Place) → found ≡ None → KeepsFound found old old
nothing_found found old none = kept_none (λ place. found ≡ Some place) old (λ place e. none-some place (sym none ∙ e))
