-- Lists and maps are equal item by item exactly where their plain values are equal.
use Rattle.std.proofs.Common.{ℕ, ◌≡◌, List, [], ◌∷◌, map, refl, sym, ap, ◌∙◌}
use Rattle.std.specs.Prelude.{Bool, IsTrue, ◌↔◌}
use Rattle.std.specs.List.{AllZip}
use Rattle.std.specs.Global.{Vec}
use Rattle.types_expr.specs.Types.{PlainType, Underlying, same_type, same_underlying}
use Rattle.law_typing.proofs.IdenticalTypes.{types_same, same_types, underlying_same, same_underlyings}
use Rattle.types_check.specs.EqualEntries.{AreNamedAlike}
use Rattle.types_check.specs.Known.{entry_value}

abbrev SameValue : {X Y : Type 0} → (X → Y) → X → X → Type 0
SameValue value x y = value x ≡ value y

values_same : {X Y : Type 0} (value : X → Y) (xs ys : List X) → AllZip (SameValue value) xs ys → map value xs ≡ map value ys
values_same value [] [] z = refl
values_same value [] (y ∷ ys) z = absurd z
values_same value (x ∷ xs) [] z = absurd z
values_same value (x ∷ xs) (y ∷ ys) z = λ i. z.0 i ∷ values_same value xs ys z.1 i

same_values : {X Y : Type 0} (value : X → Y) (xs ys : List X) → map value xs ≡ map value ys → AllZip (SameValue value) xs ys
same_values value [] [] e = tt
same_values value [] (y ∷ ys) e = cc
same_values value (x ∷ xs) [] e = cc
same_values value (x ∷ xs) (y ∷ ys) e = ((cc), same_values value xs ys (cc))

-- a test of lists item by item tests their plain values
pub by_values : {X Y : Type 0} (value : X → Y) (xs ys : List X) (test : Bool) → (IsTrue test ↔ AllZip (SameValue value) xs ys) →
    (IsTrue test ↔ (map value xs ≡ map value ys))
by_values value xs ys test h = (λ t. values_same value xs ys (h.0 t), λ e. h.1 (same_values value xs ys e))

entries_same : {X Y : Type 0} (value : X → Y) (es fs : List (Vec ℕ × X)) → AllZip (AreNamedAlike (SameValue value)) es fs →
    map (entry_value value) es ≡ map (entry_value value) fs
entries_same value [] [] z = refl
entries_same value [] (f ∷ fs) z = absurd z
entries_same value (e ∷ es) [] z = absurd z
entries_same value (e ∷ es) (f ∷ fs) z = λ i. (z.0.0 i, z.0.1 i) ∷ entries_same value es fs z.1 i

same_entries : {X Y : Type 0} (value : X → Y) (es fs : List (Vec ℕ × X)) → map (entry_value value) es ≡ map (entry_value value) fs →
    AllZip (AreNamedAlike (SameValue value)) es fs
same_entries value [] [] q = tt
same_entries value [] (f ∷ fs) q = cc
same_entries value (e ∷ es) [] q = cc
same_entries value (e ∷ es) (f ∷ fs) q =
    let here : entry_value value e ≡ entry_value value f = cc in
    ((ap (λ p. p.0) here, ap (λ p. p.1) here), same_entries value es fs (cc))

-- a test of maps entry by entry tests their names and plain values
pub by_entries : {X Y : Type 0} (value : X → Y) (es fs : List (Vec ℕ × X)) (test : Bool) →
    (IsTrue test ↔ AllZip (AreNamedAlike (SameValue value)) es fs) →
    (IsTrue test ↔ (map (entry_value value) es ≡ map (entry_value value) fs))
by_entries value es fs test h = (λ t. entries_same value es fs (h.0 t), λ q. h.1 (same_entries value es fs q))

-- The test of types, and that of underlying types

pub type_by_test : (a b : PlainType) (test : Bool) → test ≡ same_type a b → (IsTrue test ↔ (a ≡ b))
type_by_test a b test h = (λ t. types_same a b (sym h ∙ t), λ e. h ∙ (sym (ap (same_type a) e) ∙ same_types a))

pub underlying_by_test : (a b : Underlying) (test : Bool) → test ≡ same_underlying a b → (IsTrue test ↔ (a ≡ b))
underlying_by_test a b test h = (λ t. underlying_same a b (sym h ∙ t), λ e. h ∙ (sym (ap (same_underlying a) e) ∙ same_underlyings a))
