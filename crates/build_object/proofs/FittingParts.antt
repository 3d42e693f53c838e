-- Parts of code that stay within their function, and how they are joined.
use Rattle.std.proofs.Common.{ℕ, suc, ◌≡◌, ◌==◌, ◌+◌, ◌<◌, List, [], ◌∷◌, ◌++◌, length, ap, refl, ◌∙◌, subst, add-zero, true, false}
use Rattle.std.proofs.Common.{Option, Some, None, if◌then◌else◌, arith}
use Rattle.std.specs.Prelude.{⊤}
use Rattle.std.specs.List.{flat_map}
use Rattle.build_object.specs.Lines.{CodeLine, line_if_known}
use Rattle.build_object.specs.Numbering.{slot_from, slot_of}
use Rattle.build_object.specs.Fitting.{FitsAt}

-- so many lines more, and behind so many lines; both count so that they compute
abbrev pub count : List CodeLine → ℕ → ℕ
count [] a = a
count (l ∷ ls) a = suc (count ls a)

abbrev pub after : List CodeLine → ℕ → ℕ
after [] b = b
after (l ∷ ls) b = after ls (suc b)

pub is_count : (ls : List CodeLine) (a : ℕ) → count ls a ≡ length ls + a
is_count [] a = let e : a ≡ 0 + a = omega arith in e
is_count (l ∷ ls) a = let e : suc (length ls + a) ≡ suc (length ls) + a = omega arith in ap suc (is_count ls a) ∙ e

pub is_after : (ls : List CodeLine) (b : ℕ) → after ls b ≡ length ls + b
is_after [] b = let e : b ≡ 0 + b = omega arith in e
is_after (l ∷ ls) b = let e : length ls + suc b ≡ suc (length ls) + b = omega arith in is_after ls (suc b) ∙ e

count_suc : (ls : List CodeLine) (a : ℕ) → suc (count ls a) ≡ count ls (suc a)
count_suc [] a = refl
count_suc (l ∷ ls) a = ap suc (count_suc ls a)

count_append : (ks ls : List CodeLine) (a : ℕ) → count ks (count ls a) ≡ count (ks ++ ls) a
count_append [] ls a = refl
count_append (k ∷ ks) ls a = ap suc (count_append ks ls a)

-- lines before which so many lines of the function stand, and behind which so many
abbrev pub Within : (slots before : ℕ) → List CodeLine → (behind : ℕ) → Type 0
Within k b [] a = ⊤
Within k b (l ∷ ls) a = FitsAt k b (count ls a) l × Within k (suc b) ls a

-- lines behind which that many lines and one more stand
abbrev pub Before : (slots behind : ℕ) → List CodeLine → Type 0
Before k a lines = (b : ℕ) → Within k b lines (suc a)

-- lines that stay within themselves and the line behind them
abbrev pub Stays : (slots : ℕ) → List CodeLine → Type 0
Stays k lines = (a : ℕ) → Before k a lines

at_place : (k b a : ℕ) (xs ys : List CodeLine) (l : CodeLine) → Within k b (xs ++ (l ∷ ys)) a → FitsAt k (after xs b) (count ys a) l
at_place k b a [] ys l h = h.0
at_place k b a (x ∷ xs) ys l h = at_place k (suc b) a xs ys l h.1

-- in a whole function
pub fits_at : (k : ℕ) (xs ys : List CodeLine) (l : CodeLine) → Within k 0 (xs ++ (l ∷ ys)) 0 → FitsAt k (length xs) (length ys) l
fits_at k xs ys l h =
    subst (λ n. FitsAt k (length xs) n l) (is_count ys 0 ∙ add-zero (length ys))
    (subst (λ n. FitsAt k n (count ys 0) l) (is_after xs 0 ∙ add-zero (length xs)) (at_place k 0 0 xs ys l h))

pub joined : (k b a : ℕ) (xs ys : List CodeLine) → Within k b xs (count ys a) → Within k (after xs b) ys a → Within k b (xs ++ ys) a
joined k b a [] ys f g = g
joined k b a (x ∷ xs) ys f g = (subst (λ n. FitsAt k b n x) (count_append xs ys a) f.0, joined k (suc b) a xs ys f.1 g)

pub before_joined : (k a : ℕ) (xs ys : List CodeLine) → Before k (count ys a) xs → Before k a ys → Before k a (xs ++ ys)
before_joined k a xs ys f g = λ b. joined k b (suc a) xs ys (subst (λ n. Within k b xs n) (count_suc ys a) (f b)) (g (after xs b))

pub none_stays : (k : ℕ) → Stays k []
none_stays k = λ a b. tt

pub stays_before : (k a : ℕ) (xs ys : List CodeLine) → Stays k xs → Before k a ys → Before k a (xs ++ ys)
stays_before k a xs ys f g = before_joined k a xs ys (f (count ys a)) g

pub stays_joined : (k : ℕ) (xs ys : List CodeLine) → Stays k xs → Stays k ys → Stays k (xs ++ ys)
stays_joined k xs ys f g = λ a. stays_before k a xs ys f (g a)

pub each_stays : {X : Type 0} (k : ℕ) (f : X → List CodeLine) → ((x : X) → Stays k (f x)) → (xs : List X) → Stays k (flat_map f xs)
each_stays k f h [] = none_stays k
each_stays k f h (x ∷ xs) = stays_joined k (f x) (flat_map f xs) (h x) (each_stays k f h xs)

pub known_stays : {X : Type 0} (k : ℕ) (line : X → CodeLine) → ((x : X) → Stays k (line x ∷ [])) → (o : Option X) → Stays k (line_if_known line o)
known_stays k line h None = none_stays k
known_stays k line h (Some x) = h x

-- slots

abbrev pub IsSlot : (slots : ℕ) → Option ℕ → Type 0
IsSlot k None = ⊤
IsSlot k (Some n) = n < k

slot_within : (n : ℕ) (ps : List ℕ) (q : ℕ) → IsSlot (n + length ps) (slot_from n ps q)
slot_within n [] q = tt
slot_within n (p ∷ ps) q =
    let e : suc n + length ps ≡ n + suc (length ps) = omega arith in
    let here : n < n + suc (length ps) = omega arith in
    elim (p == q) as (λ t. IsSlot (n + suc (length ps)) (if t then Some n else slot_from (suc n) ps q)) [
      | true ↦ here
      | false ↦ subst (λ m. IsSlot m (slot_from (suc n) ps q)) e (slot_within (suc n) ps q)
    ]

pub is_slot : (slots : List ℕ) (place : ℕ) → IsSlot (length slots) (slot_of slots place)
is_slot slots place = let e : 0 + length slots ≡ length slots = omega arith in subst (λ m. IsSlot m (slot_of slots place)) e (slot_within 0 slots place)

pub slot_stays : (k : ℕ) (line : ℕ → CodeLine) → ((n b a : ℕ) → n < k → FitsAt k b a (line n)) → (o : Option ℕ) → IsSlot k o → Stays k (line_if_known line o)
slot_stays k line h None s = none_stays k
slot_stays k line h (Some n) s = λ a b. (h n b (suc a) s, tt)
