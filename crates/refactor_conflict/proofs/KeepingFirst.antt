-- The first conflict found so far, one step after another.
use Rattle.std.proofs.Common.{◌≡◌, Bool, true, inl, inr, sym, ap, subst, refl, ◌∙◌}
use Rattle.std.specs.Prelude.{◌↔◌, IsTrue, Option, Some, None, Result, Ok, Err, OnOk}
use Rattle.std.specs.declared.cmp.Ordering.TheVariants.{Less}
use Rattle.std.specs.Ordering.{is_lt}
use Rattle.std.proofs.lemmas.Option.{none-some, same_Some}
use Rattle.std.proofs.lemmas.Result.{on_ok_weaker}
use Rattle.base_lemmas.proofs.Tests.{less_from_test}
use Rattle.base_files.specs.declared.place.Place.{Place}
use Rattle.refs_binding.specs.Places.{place_cmp}
use Rattle.refs_binding.proofs.PlaceOrder.{place_cmp_total}
use Rattle.refactor_conflict.specs.Conflicts.{Takes, IsPlaceBefore, HoldsBefore}
use Rattle.refactor_conflict.specs.declared.conflict.Conflict.{Conflict}

-- The places before the first conflict found so far.
pub ahead_of_none : (first : Option Conflict) (place : Place) → first ≡ None → IsTrue true ↔ IsPlaceBefore first place
ahead_of_none first place none = ((λ t. subst (λ o. IsPlaceBefore o place) (sym none) tt), (λ h. refl))

pub ahead_of_some : (first : Option Conflict) (c : Conflict) (place : Place) → first ≡ Some c → (told : Bool) → told ≡ is_lt (place_cmp place c.used) →
    IsTrue told ↔ IsPlaceBefore first place
ahead_of_some first c place some told is = (
  (λ t. subst (λ o. IsPlaceBefore o place) (sym some) (less_from_test (place_cmp place c.used) (sym is ∙ t))),
  (λ h. let less : place_cmp place c.used ≡ Less = subst (λ o. IsPlaceBefore o place) some h in is ∙ ap is_lt less),
)

ahead_before : (first : Option Conflict) (used : Place) → IsPlaceBefore first used → (place : Place) → place_cmp place used ≡ Less → IsPlaceBefore first place
ahead_before None used h place less = tt
ahead_before (Some c) used h place less = place_cmp_total.trans place used c.used less h

-- A place before the conflict that is first after a step was before the one that was first before it.
pub ahead_of : (P : Conflict → Type 0) (a b : Option Conflict) → Takes P a b → (place : Place) → IsPlaceBefore b place → IsPlaceBefore a place
ahead_of P a b (inl e) place h = subst (λ o. IsPlaceBefore o place) e h
ahead_of P a b (inr x) place h = ahead_before a x.0.used x.1.1.1 place (subst (λ o. IsPlaceBefore o place) x.1.0 h)

pub takes_none : (P : Conflict → Type 0) (a : Option Conflict) → Takes P a a
takes_none P a = inl refl

-- A step that takes conflicts of which `P` holds takes conflicts of which a weaker `Q` holds.
pub takes_as : (P Q : Conflict → Type 0) (a b : Option Conflict) → ((x : Conflict) → P x → Q x) → Takes P a b → Takes Q a b
takes_as P Q a b to (inl e) = inl e
takes_as P Q a b to (inr x) = inr (x.0, (x.1.0, (to x.0 x.1.1.0, x.1.1.1)))

pub call_takes : {E : Type 0} (P Q : Conflict → Type 0) (a b : Option Conflict) (r : Result (Unit {0}) E) → ((x : Conflict) → P x → Q x) →
    OnOk r (Takes P a b) → OnOk r (Takes Q a b)
call_takes P Q a b r to h = on_ok_weaker r (λ t. takes_as P Q a b to t) h

-- one step after another
pub takes_then : (P : Conflict → Type 0) (a b c : Option Conflict) → Takes P a b → Takes P b c → Takes P a c
takes_then P a b c h (inl e) = subst (Takes P a) (sym e) h
takes_then P a b c h (inr x) = inr (x.0, (x.1.0, (x.1.1.0, ahead_of P a b h x.0.used x.1.1.1)))

-- The first conflict at the end, where none was found at the beginning.
pub taken : (P : Conflict → Type 0) (c : Conflict) → Takes P None (Some c) → P c
taken P c (inl e) = absurd (none-some c (sym e))
taken P c (inr x) = subst P (sym (same_Some c x.0 x.1.0)) x.1.1.0

-- A relation that holds of the places before the first conflict still holds of them after a step.
pub still_holds : (P : Conflict → Type 0) (K : Place → Type 0) (a b : Option Conflict) → Takes P a b → HoldsBefore K a → HoldsBefore K b
still_holds P K a b t h = λ place ahead. h place (ahead_of P a b t place ahead)

-- A relation that holds of the places before the first conflict may be replaced by a weaker one.
pub holds_as : (K L : Place → Type 0) (a : Option Conflict) → ((place : Place) → K place → L place) → HoldsBefore K a → HoldsBefore L a
holds_as K L a to h = λ place ahead. to place (h place ahead)

-- Two clauses about a call, as one.
pub call_both : {E P Q R : Type 0} (r : Result (Unit {0}) E) → (P → Q → R) → OnOk r P → OnOk r Q → OnOk r R
call_both (Ok u) to p q = to p q
call_both (Err e) to p q = tt
