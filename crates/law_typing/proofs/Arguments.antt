-- The values of a list as the judgement finds them, by their kinds.
use Rattle.std.proofs.Common.{ℕ, ◌≡◌, Bool, true, false, List, [], ◌∷◌, length, Option, Some, None, refl, sym, ap, ◌∙◌, true≢false, if◌then◌else◌, suc, arith}
use Rattle.types_expr.specs.declared.types.Basic.{Basic}
use Rattle.types_expr.specs.declared.classes.ValueClass.{ValueClass}
use Rattle.types_expr.specs.declared.classes.ValueClass.TheVariants as class
use Rattle.types_expr.specs.Types.{PlainType, ValueKind}
use Rattle.types_expr.specs.World.{World}
use Rattle.types_expr.specs.Operations.{fits, class_of, is_printed}
use Rattle.types_expr.specs.Judge.{ListValue, is_whole, all_whole, misfit, misfits, all_misfits, is_printed_value, all_printed}
use Rattle.law_typing.specs.Operators.{IsBasic}
use Rattle.law_typing.specs.Fits.{FitsType, FitInTurn, no_values, then_fits, EachFits, none, also_fits}
use Rattle.law_typing.specs.Links.{ArePrinted, also}
use Rattle.law_typing.specs.Links.{none as none_printed}
use Rattle.law_typing.proofs.Tests.{and_first, and_second, and_both}
use Rattle.law_typing.proofs.Fitting.{fits_true, true_fits}
use Rattle.law_typing.proofs.Classes.{class_true, class_is}
use Rattle.law_typing.proofs.Judgements.{empty_first, empty_second, empty_both}

-- the values have these kinds, and none is broken
abbrev pub AreOf : List ListValue → List ValueKind → Type 0
AreOf [] [] = Unit {0}
AreOf [] (k ∷ ks) = ⊥
AreOf (v ∷ vs) [] = ⊥
AreOf (v ∷ vs) (k ∷ ks) = (v.kind ≡ Some k) × AreOf vs ks

pub same_many : (vs : List ListValue) (ks : List ValueKind) → AreOf vs ks → length vs ≡ length ks
same_many [] [] a = refl
same_many [] (k ∷ ks) a = absurd a
same_many (v ∷ vs) [] a = absurd a
same_many (v ∷ vs) (k ∷ ks) a = ap suc (same_many vs ks a.1)

pub whole_all : (vs : List ListValue) (ks : List ValueKind) → AreOf vs ks → all_whole vs ≡ true
unfolding all_whole
whole_all [] ks a = refl
whole_all (v ∷ vs) [] a = absurd a
whole_all (v ∷ vs) (k ∷ ks) a = and_both (is_whole v.kind) (all_whole vs) (ap is_whole a.0) (whole_all vs ks a.1)

pub whole_kind : (o : Option ValueKind) → is_whole o ≡ true → (k : ValueKind) × (o ≡ Some k)
whole_kind None h = absurd (true≢false (sym h))
whole_kind (Some k) h = (k, refl)

pub kinds_of : (vs : List ListValue) → all_whole vs ≡ true → (ks : List ValueKind) × AreOf vs ks
unfolding all_whole
kinds_of [] h = ([], tt)
kinds_of (v ∷ vs) h = let k = whole_kind v.kind (and_first (is_whole v.kind) (all_whole vs) h) in
    let more = kinds_of vs (and_second (is_whole v.kind) (all_whole vs) h) in
    (k.0 ∷ more.0, (k.1, more.1))

-- a value that fits

pub fit_silent : (w : World) (place : ℕ) {o : Option ValueKind} {k : ValueKind} {t : PlainType} → o ≡ Some k → FitsType w k t → misfit w place o t ≡ []
unfolding misfit
fit_silent w place {o} {k} {t} e f = ap (λ x. misfit w place x t) e ∙ ap (λ b. if b then [] else (place ∷ [])) (fits_true w f)

silent_test : (place : ℕ) (b : Bool) → (if b then [] else (place ∷ [])) ≡ [] → b ≡ true
silent_test place true h = refl
silent_test place false h = cc

known_fit : (w : World) (place : ℕ) (k : ValueKind) (t : PlainType) → misfit w place (Some k) t ≡ [] → FitsType w k t
unfolding misfit
known_fit w place k t h = true_fits w k t (silent_test place (fits w k t) h)

pub silent_fit : (w : World) (place : ℕ) (o : Option ValueKind) (k : ValueKind) (t : PlainType) → o ≡ Some k → misfit w place o t ≡ [] → FitsType w k t
silent_fit w place o k t e h = known_fit w place k t (ap (λ x. misfit w place x t) (sym e) ∙ h)

-- values that fit types in turn

pub as_many : (w : World) (vs : List ListValue) {ks : List ValueKind} {ts : List PlainType} → AreOf vs ks → FitInTurn w ks ts → length vs ≡ length ts
as_many w [] a no_values = refl
as_many w [] a (then_fits f more) = absurd a
as_many w (v ∷ vs) a no_values = absurd a
as_many w (v ∷ vs) a (then_fits f more) = ap suc (as_many w vs a.1 more)

pub in_turn_silent : (w : World) (vs : List ListValue) {ks : List ValueKind} {ts : List PlainType} → AreOf vs ks → FitInTurn w ks ts → misfits w vs ts ≡ []
unfolding misfits
in_turn_silent w [] a no_values = refl
in_turn_silent w [] a (then_fits f more) = absurd a
in_turn_silent w (v ∷ vs) a no_values = absurd a
in_turn_silent w (v ∷ vs) a (then_fits {t = t} {ts = ts} f more) =
    empty_both (misfit w v.place v.kind t) (misfits w vs ts) (fit_silent w v.place a.0 f) (in_turn_silent w vs a.1 more)

pub silent_in_turn : (w : World) (vs : List ListValue) (ks : List ValueKind) (ts : List PlainType) → AreOf vs ks → length vs ≡ length ts →
    misfits w vs ts ≡ [] →
    FitInTurn w ks ts
unfolding misfits
silent_in_turn w [] [] [] a n h = no_values
silent_in_turn w [] [] (t ∷ ts) a n h = absurd (omega arith)
silent_in_turn w [] (k ∷ ks) ts a n h = absurd a
silent_in_turn w (v ∷ vs) [] ts a n h = absurd a
silent_in_turn w (v ∷ vs) (k ∷ ks) [] a n h = absurd (omega arith)
silent_in_turn w (v ∷ vs) (k ∷ ks) (t ∷ ts) a n h = let m : length vs ≡ length ts = omega arith in
    then_fits (silent_fit w v.place v.kind k t a.0 (empty_first (misfit w v.place v.kind t) (misfits w vs ts) h))
    (silent_in_turn w vs ks ts a.1 m (empty_second (misfit w v.place v.kind t) (misfits w vs ts) h))

-- values that fit one type

pub each_silent : (w : World) (t : PlainType) (vs : List ListValue) {ks : List ValueKind} → AreOf vs ks → EachFits w t ks → all_misfits w vs t ≡ []
unfolding all_misfits
each_silent w t [] a none = refl
each_silent w t [] a (also_fits f more) = absurd a
each_silent w t (v ∷ vs) a none = absurd a
each_silent w t (v ∷ vs) a (also_fits f more) = empty_both (misfit w v.place v.kind t) (all_misfits w vs t) (fit_silent w v.place a.0 f)
    (each_silent w t vs a.1 more)

pub silent_each : (w : World) (t : PlainType) (vs : List ListValue) (ks : List ValueKind) → AreOf vs ks → all_misfits w vs t ≡ [] → EachFits w t ks
unfolding all_misfits
silent_each w t [] [] a h = none
silent_each w t [] (k ∷ ks) a h = absurd a
silent_each w t (v ∷ vs) [] a h = absurd a
silent_each w t (v ∷ vs) (k ∷ ks) a h = also_fits (silent_fit w v.place v.kind k t a.0 (empty_first (misfit w v.place v.kind t) (all_misfits w vs t) h))
    (silent_each w t vs ks a.1 (empty_second (misfit w v.place v.kind t) (all_misfits w vs t) h))

-- values that are printed

pub printed_true : (w : World) (vs : List ListValue) {ks : List ValueKind} → AreOf vs ks → ArePrinted w ks → all_printed w vs ≡ true
unfolding all_printed
printed_true w [] a none_printed = refl
printed_true w [] a (also i more) = absurd a
printed_true w (v ∷ vs) a none_printed = absurd a
printed_true w (v ∷ vs) a (also i more) = and_both (is_printed_value w v.kind) (all_printed w vs)
    (ap (is_printed_value w) a.0 ∙ ap is_printed (class_true w i)) (printed_true w vs a.1 more)

printed_class : (w : World) (k : ValueKind) (c : ValueClass) → class_of w k ≡ c → is_printed c ≡ true → (b : Basic) × IsBasic w k b
printed_class w k (class.Of b) e h = (b, class_is w k b e)
printed_class w k c e h = absurd (true≢false (sym h))

pub true_printed : (w : World) (vs : List ListValue) (ks : List ValueKind) → AreOf vs ks → all_printed w vs ≡ true → ArePrinted w ks
unfolding all_printed
true_printed w [] [] a h = none_printed
true_printed w [] (k ∷ ks) a h = absurd a
true_printed w (v ∷ vs) [] a h = absurd a
true_printed w (v ∷ vs) (k ∷ ks) a h = let p = and_first (is_printed_value w v.kind) (all_printed w vs) h in
    let q : is_printed_value w (Some k) ≡ true = ap (is_printed_value w) (sym a.0) ∙ p in
    also (printed_class w k (class_of w k) refl q).1 (true_printed w vs ks a.1 (and_second (is_printed_value w v.kind) (all_printed w vs) h))
