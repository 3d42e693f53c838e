-- The functions `fits` and `converts` agree with the rules of assignability and conversion.
use Rattle.std.proofs.Common.{◌≡◌, Bool, true, false, ◌&&◌, ◌⊎◌, inl, inr, refl, sym, ap, ◌∙◌, subst, true≢false}
use Rattle.types_expr.specs.declared.symbol.Symbol.{Symbol}
use Rattle.types_expr.specs.Types.{PlainType, BasicType, Defined, Pointer, Slice, Underlying, Plain}
use Rattle.types_expr.specs.Types.{PointerTo, SliceOf, Struct, Interface, ValueKind, Typed, Untyped, Nil}
use Rattle.types_expr.specs.Types.{same_type, same_underlying, is_named, either_unnamed, has_nil}
use Rattle.types_expr.specs.World.{World, underlying}
use Rattle.types_expr.specs.Operations.{is_value_of, enters, fits, converts}
use Rattle.law_typing.specs.Fits.{IsUnnamedType, a_pointer, a_slice, FitsType, identical, unnamed, as_interface, untyped, constant_as_interface}
use Rattle.law_typing.specs.Fits.{nil_as_pointer, nil_as_slice, nil_as_interface, Converts, fitting, alike}
use Rattle.law_typing.proofs.Tests.{and_first, and_second, and_both, or_first, or_second, or_cases}
use Rattle.law_typing.proofs.IdenticalTypes.{types_same, same_types, underlying_same, same_underlyings}

unnamed_is : {t : PlainType} → IsUnnamedType t → is_named t ≡ false
unfolding is_named
unnamed_is a_pointer = refl
unnamed_is a_slice = refl

is_unnamed : (t : PlainType) → is_named t ≡ false → IsUnnamedType t
unfolding is_named
is_unnamed (Pointer t) h = a_pointer
is_unnamed (Slice t) h = a_slice
is_unnamed (BasicType b) h = absurd (true≢false h)
is_unnamed (Defined s) h = absurd (true≢false h)

left_unnamed : (a b : Bool) → a ≡ false → either_unnamed a b ≡ true
left_unnamed true b h = absurd (true≢false h)
left_unnamed false b h = refl

right_unnamed : (a b : Bool) → b ≡ false → either_unnamed a b ≡ true
right_unnamed true true h = absurd (true≢false h)
right_unnamed true false h = refl
right_unnamed false b h = refl

unnamed_test : {v t : PlainType} → IsUnnamedType v ⊎ IsUnnamedType t → either_unnamed (is_named v) (is_named t) ≡ true
unnamed_test {v} {t} (inl h) = left_unnamed (is_named v) (is_named t) (unnamed_is h)
unnamed_test {v} {t} (inr h) = right_unnamed (is_named v) (is_named t) (unnamed_is h)

one_named : (a b : Bool) → either_unnamed a b ≡ true → (a ≡ false) ⊎ (b ≡ false)
one_named true true h = absurd (true≢false (sym h))
one_named true false h = inr refl
one_named false b h = inl refl

test_unnamed : (v t : PlainType) → either_unnamed (is_named v) (is_named t) ≡ true → IsUnnamedType v ⊎ IsUnnamedType t
test_unnamed v t h = elim (one_named (is_named v) (is_named t) h) [ inl e ↦ inl (is_unnamed v e) | inr e ↦ inr (is_unnamed t e) ]

pub alike_test : (w : World) (v t : PlainType) → underlying w v ≡ underlying w t → same_underlying (underlying w v) (underlying w t) ≡ true
alike_test w v t e = ap (λ x. same_underlying (underlying w v) x) (sym e) ∙ same_underlyings (underlying w v)

pub fits_true : (w : World) {k : ValueKind} {t : PlainType} → FitsType w k t → fits w k t ≡ true
unfolding fits same_underlying has_nil
fits_true w (identical {t}) = or_first (is_value_of w t t) (enters w t (underlying w t))
    (or_first (same_type t t) (either_unnamed (is_named t) (is_named t) && same_underlying (underlying w t) (underlying w t)) (same_types t))
fits_true w (unnamed {v} {t} u e) = or_first (is_value_of w v t) (enters w v (underlying w t))
    (or_second (same_type v t) (either_unnamed (is_named v) (is_named t) && same_underlying (underlying w v) (underlying w t))
    (and_both (either_unnamed (is_named v) (is_named t)) (same_underlying (underlying w v) (underlying w t)) (unnamed_test u) (alike_test w v t e)))
fits_true w (as_interface {v} {t} e i) = or_second (is_value_of w v t) (enters w v (underlying w t)) (ap (enters w v) e ∙ i)
fits_true w (untyped {b} {t} e) = or_first (same_underlying (Plain b) (underlying w t)) (enters w (BasicType b) (underlying w t))
    (ap (λ x. same_underlying (Plain b) x) e ∙ same_underlyings (Plain b))
fits_true w (constant_as_interface {b} {t} e i) = or_second (same_underlying (Plain b) (underlying w t)) (enters w (BasicType b) (underlying w t))
    (ap (enters w (BasicType b)) e ∙ i)
fits_true w (nil_as_pointer e) = ap has_nil e
fits_true w (nil_as_slice e) = ap has_nil e
fits_true w (nil_as_interface e) = ap has_nil e

nil_fits : (w : World) (t : PlainType) (u : Underlying) → underlying w t ≡ u → has_nil u ≡ true → FitsType w Nil t
unfolding has_nil
nil_fits w t (PointerTo x) e h = nil_as_pointer e
nil_fits w t (SliceOf x) e h = nil_as_slice e
nil_fits w t (Interface s) e h = nil_as_interface e
nil_fits w t (Plain b) e h = absurd (true≢false (sym h))
nil_fits w t (Struct s) e h = absurd (true≢false (sym h))

value_of : (w : World) (v t : PlainType) → is_value_of w v t ≡ true → FitsType w (Typed v) t
value_of w v t h = elim (or_cases (same_type v t) (either_unnamed (is_named v) (is_named t) && same_underlying (underlying w v) (underlying w t)) h) [
  | inl e ↦ subst (λ x. FitsType w (Typed v) x) (types_same v t e) identical
  | inr e ↦ unnamed (test_unnamed v t (and_first (either_unnamed (is_named v) (is_named t)) (same_underlying (underlying w v) (underlying w t)) e))
      (underlying_same (underlying w v) (underlying w t)
      (and_second (either_unnamed (is_named v) (is_named t)) (same_underlying (underlying w v) (underlying w t)) e))
]

-- a type that enters an underlying type implements the interface
entered : (w : World) (v : PlainType) (u : Underlying) → enters w v u ≡ true → (s : Symbol) × ((u ≡ Interface s) × (w.implements v s ≡ true))
entered w v (Interface s) h = (s, (refl, h))
entered w v (Plain b) h = absurd (true≢false (sym h))
entered w v (PointerTo t) h = absurd (true≢false (sym h))
entered w v (SliceOf t) h = absurd (true≢false (sym h))
entered w v (Struct s) h = absurd (true≢false (sym h))

pub true_fits : (w : World) (k : ValueKind) (t : PlainType) → fits w k t ≡ true → FitsType w k t
unfolding fits
true_fits w (Typed v) t h = elim (or_cases (is_value_of w v t) (enters w v (underlying w t)) h) [
  | inl e ↦ value_of w v t e
  | inr e ↦ let i = entered w v (underlying w t) e in as_interface i.1.0 i.1.1
]
true_fits w (Untyped b) t h = elim (or_cases (same_underlying (Plain b) (underlying w t)) (enters w (BasicType b) (underlying w t)) h) [
  | inl e ↦ untyped (sym (underlying_same (Plain b) (underlying w t) e))
  | inr e ↦ let i = entered w (BasicType b) (underlying w t) e in constant_as_interface i.1.0 i.1.1
]
true_fits w Nil t h = nil_fits w t (underlying w t) refl h

pub converts_true : (w : World) {k : ValueKind} {t : PlainType} → Converts w k t → converts w k t ≡ true
converts_true w (fitting {k} {t} f) = fitting_true w k t (fits_true w f)
  where
    fitting_true : (w : World) (k : ValueKind) (t : PlainType) → fits w k t ≡ true → converts w k t ≡ true
    fitting_true w (Typed v) t h = or_first (fits w (Typed v) t) (same_underlying (underlying w v) (underlying w t)) h
    fitting_true w (Untyped b) t h = h
    fitting_true w Nil t h = h
converts_true w (alike {v} {t} e) = or_second (fits w (Typed v) t) (same_underlying (underlying w v) (underlying w t)) (alike_test w v t e)

pub true_converts : (w : World) (k : ValueKind) (t : PlainType) → converts w k t ≡ true → Converts w k t
true_converts w (Typed v) t h = elim (or_cases (fits w (Typed v) t) (same_underlying (underlying w v) (underlying w t)) h) [
  | inl e ↦ fitting (true_fits w (Typed v) t e)
  | inr e ↦ alike (underlying_same (underlying w v) (underlying w t) e)
]
true_converts w (Untyped b) t h = fitting (true_fits w (Untyped b) t h)
true_converts w Nil t h = fitting (true_fits w Nil t h)
