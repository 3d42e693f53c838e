-- Values that are read at the beginning of bytes: of two parts, and of lists.
use Rattle.std.proofs.Common.{◌≡◌, ℕ, ◌+◌, ◌<◌, ◌≤◌, List, [], ◌∷◌, ◌++◌, append_assoc}
use Rattle.std.proofs.Common.{drop, get_or, length, length-append, refl, sym, ap, subst, take, ◌∙◌, arith}
use Rattle.std.specs.Prelude.{OnOk, Result, Ok, Err, is_ok, if◌then◌else◌}
use Rattle.std.specs.Int.{from_le_bytes, to_le_bytes, w64}
use Rattle.std.specs.List.{AllByRecursion, flat_map}
use Rattle.std.proofs.lemmas.List.{flat_map_more, length-take-le, take-append-drop, take_more}
use Rattle.std.proofs.lemmas.Nat.{from_le_bytes-to_le_bytes_8, le_bytes_8}
use Rattle.history_records.specs.Encoded.{AreCounted, FailsToDecode, IsNumber, StartsWith, StartsWithNone, list_bytes, number_bytes}
use Rattle.history_records.specs.declared.change.ChangeFault.{ChangeFault}
use Rattle.history_records.specs.declared.change.ChangeFault.TheVariants.{Memory, NoChange}
use Rattle.history_records.proofs.Heads.{parts_same}

-- the same bytes begin with one value at most, and the same bytes stand behind it
abbrev pub IsOnce : {A : Type 0} → (A → List ℕ) → (A → Type 0) → Type 0
IsOnce {A} bytes_of P = (v w : A) (r s : List ℕ) → P v → P w → bytes_of v ++ r ≡ bytes_of w ++ s → (v ≡ w) × (r ≡ s)

pub number_once : IsOnce number_bytes IsNumber
unfolding number_bytes
number_once m n r s p q e =
    let heads = parts_same (to_le_bytes w64 m) (to_le_bytes w64 n) r s refl e in
    (sym (from_le_bytes-to_le_bytes_8 m p) ∙ ap (λ (x : List ℕ). from_le_bytes w64 x) heads.0 ∙ from_le_bytes-to_le_bytes_8 n q, heads.1)

-- eight bytes are those of their number
pub number_read : (bytes head rest : List ℕ) (n : ℕ) → head ≡ take 8 bytes → rest ≡ drop 8 bytes → 8 ≤ length bytes →
    ((i : ℕ) → get_or head i 0 < 256) → n ≡ from_le_bytes w64 head → bytes ≡ number_bytes n ++ rest
unfolding number_bytes
number_read bytes head rest n head_is rest_is long small is =
    let eight : length head ≡ 8 = ap length head_is ∙ length-take-le 8 bytes long in
    sym (ap (λ (x : List ℕ). x ++ rest) (le_bytes_8 head n eight small is ∙ head_is)
    ∙ ap (λ (x : List ℕ). take 8 bytes ++ x) rest_is ∙ take-append-drop 8 bytes)

count_eight : (n : ℕ) → length (number_bytes n) ≡ 8
unfolding number_bytes
count_eight n = refl

-- fewer bytes are those of none
pub number_short : (bytes : List ℕ) → length bytes < 8 → StartsWithNone number_bytes IsNumber bytes
number_short bytes few v rest is = omega (arith, few, ap length is.1, length-append (number_bytes v) rest, count_eight v)

-- ---- values of two parts

module _ {A B C : Type 0} (first_of : A → List ℕ) (P : A → Type 0) (second_of : B → List ℕ) (Q : B → Type 0) (a : C → A) (b : C → B) where
  pub fails_by_first : (bytes : List ℕ) (fault : ChangeFault) → FailsToDecode first_of P bytes fault →
      FailsToDecode {A = C} (λ v. first_of (a v) ++ second_of (b v)) (λ v. P (a v) × Q (b v)) bytes fault
  fails_by_first bytes Memory none = tt
  fails_by_first bytes NoChange none = λ v rest is.
      none (a v) (second_of (b v) ++ rest) (is.0.0, is.1 ∙ append_assoc (first_of (a v)) (second_of (b v)) rest)

  pub fails_by_second : IsOnce first_of P → (bytes : List ℕ) (x : A) (behind : List ℕ) (fault : ChangeFault) →
      StartsWith first_of P bytes x behind → FailsToDecode second_of Q behind fault →
      FailsToDecode {A = C} (λ v. first_of (a v) ++ second_of (b v)) (λ v. P (a v) × Q (b v)) bytes fault
  fails_by_second once bytes x behind Memory found none = tt
  fails_by_second once bytes x behind NoChange found none = λ v rest is.
      let same = once x (a v) behind (second_of (b v) ++ rest) found.0 is.0.0
      (sym found.1 ∙ is.1 ∙ append_assoc (first_of (a v)) (second_of (b v)) rest) in
      none (b v) rest (is.0.1, same.1)

  pub starts_with_both : (v : C) (bytes behind rest : List ℕ) → StartsWith first_of P bytes (a v) behind → StartsWith second_of Q behind (b v) rest →
      StartsWith {A = C} (λ w. first_of (a w) ++ second_of (b w)) (λ w. P (a w) × Q (b w)) bytes v rest
  starts_with_both v bytes behind rest one other =
      ((one.0, other.0), one.1 ∙ ap (λ (x : List ℕ). first_of (a v) ++ x) other.1 ∙ sym (append_assoc (first_of (a v)) (second_of (b v)) rest))

  pub once_both : IsOnce first_of P → IsOnce second_of Q → ((v w : C) → a v ≡ a w → b v ≡ b w → v ≡ w) →
      IsOnce {A = C} (λ v. first_of (a v) ++ second_of (b v)) (λ v. P (a v) × Q (b v))
  once_both one other join v w r s p q e =
      let split = sym (append_assoc (first_of (a v)) (second_of (b v)) r) ∙ e ∙ append_assoc (first_of (a w)) (second_of (b w)) s in
      let heads = one (a v) (a w) (second_of (b v) ++ r) (second_of (b w) ++ s) p.0 q.0 split in
      let tails = other (b v) (b w) r s p.1 q.1 heads.1 in
      (join v w heads.0 tails.0, tails.1)

-- ---- lists

pub all_more : {A : Type 0} (P : A → Type 0) (found : List A) (v : A) → AllByRecursion P found → P v → AllByRecursion P (found ++ v ∷ [])
all_more P [] v all is = (is, tt)
all_more P (w ∷ found) v all is = (all.0, all_more P found v all.1 is)

-- the values were read one behind the other, and `left` stands behind them
abbrev pub HasReadMany : {A : Type 0} → (A → List ℕ) → (A → Type 0) → (behind : List ℕ) → List A → (left : List ℕ) → Type 0
HasReadMany bytes_of P behind found left = AllByRecursion P found × (behind ≡ flat_map bytes_of found ++ left)

module _ {A : Type 0} (bytes_of : A → List ℕ) (P : A → Type 0) where
  pub many_more : (behind : List ℕ) (found : List A) (left : List ℕ) (v : A) (rest : List ℕ) → HasReadMany bytes_of P behind found left →
      StartsWith bytes_of P left v rest → HasReadMany bytes_of P behind (found ++ v ∷ []) rest
  many_more behind found left v rest many is = (
    all_more P found v many.0 is.0,
    many.1 ∙ ap (λ (x : List ℕ). flat_map bytes_of found ++ x) is.1
        ∙ sym (append_assoc (flat_map bytes_of found) (bytes_of v) rest)
        ∙ ap (λ (x : List ℕ). x ++ rest) (flat_map_more bytes_of [] found v),
  )

  pub list_fails_by_count : (bytes : List ℕ) (fault : ChangeFault) → FailsToDecode number_bytes IsNumber bytes fault →
      FailsToDecode (list_bytes bytes_of) (AreCounted P) bytes fault
  list_fails_by_count bytes Memory none = tt
  list_fails_by_count bytes NoChange none = λ v rest is.
      none (length v) (flat_map bytes_of v ++ rest) (is.0.0, is.1 ∙ append_assoc (number_bytes (length v)) (flat_map bytes_of v) rest)

  pub list_found : (bytes : List ℕ) (count : ℕ) (behind : List ℕ) (found : List A) (left : List ℕ) →
      StartsWith number_bytes IsNumber bytes count behind → HasReadMany bytes_of P behind found left → length found ≡ count →
      StartsWith (list_bytes bytes_of) (AreCounted P) bytes found left
  list_found bytes count behind found left counted many long = (
    (subst IsNumber (sym long) counted.0, many.0),
    counted.1 ∙ ap (λ (n : ℕ). number_bytes n ++ behind) (sym long) ∙ ap (λ (x : List ℕ). number_bytes (length found) ++ x) many.1
        ∙ sym (append_assoc (number_bytes (length found)) (flat_map bytes_of found) left),
  )

  module _ (once : IsOnce bytes_of P) where
    -- some value stands behind those that were read
    stuck : (found v : List A) (left rest : List ℕ) → AllByRecursion P found → AllByRecursion P v →
        flat_map bytes_of found ++ left ≡ flat_map bytes_of v ++ rest → length found < length v → StartsWithNone bytes_of P left → ⊥
    stuck found [] left rest p q e few none = absurd (omega (arith, few))
    stuck [] (w ∷ ws) left rest p q e few none = none w (flat_map bytes_of ws ++ rest) (q.0, e ∙ append_assoc (bytes_of w) (flat_map bytes_of ws) rest)
    stuck (v ∷ vs) (w ∷ ws) left rest p q e few none =
        let split = sym (append_assoc (bytes_of v) (flat_map bytes_of vs) left) ∙ e ∙ append_assoc (bytes_of w) (flat_map bytes_of ws) rest in
        let heads = once v w (flat_map bytes_of vs ++ left) (flat_map bytes_of ws ++ rest) p.0 q.0 split in
        stuck vs ws left rest p.1 q.1 heads.1 (omega (arith, few)) none

    pub list_fails : (bytes : List ℕ) (count : ℕ) (behind : List ℕ) (found : List A) (left : List ℕ) (fault : ChangeFault) →
        StartsWith number_bytes IsNumber bytes count behind → HasReadMany bytes_of P behind found left → length found < count →
        FailsToDecode bytes_of P left fault → FailsToDecode (list_bytes bytes_of) (AreCounted P) bytes fault
    list_fails bytes count behind found left Memory counted many few none = tt
    list_fails bytes count behind found left NoChange counted many few none = λ v rest is.
        let counts = number_once count (length v) behind (flat_map bytes_of v ++ rest) counted.0 is.0.0
        (sym counted.1 ∙ is.1 ∙ append_assoc (number_bytes (length v)) (flat_map bytes_of v) rest) in
        stuck found v left rest many.0 is.0.1 (sym many.1 ∙ counts.1) (omega (arith, few, counts.0)) none

    many_once : (vs ws : List A) (r s : List ℕ) → AllByRecursion P vs → AllByRecursion P ws → length vs ≡ length ws →
        flat_map bytes_of vs ++ r ≡ flat_map bytes_of ws ++ s → (vs ≡ ws) × (r ≡ s)
    many_once [] [] r s p q l e = (refl, e)
    many_once [] (w ∷ ws) r s p q l e = absurd (omega (arith, l))
    many_once (v ∷ vs) [] r s p q l e = absurd (omega (arith, l))
    many_once (v ∷ vs) (w ∷ ws) r s p q l e =
        let split = sym (append_assoc (bytes_of v) (flat_map bytes_of vs) r) ∙ e ∙ append_assoc (bytes_of w) (flat_map bytes_of ws) s in
        let heads = once v w (flat_map bytes_of vs ++ r) (flat_map bytes_of ws ++ s) p.0 q.0 split in
        let tails = many_once vs ws r s p.1 q.1 (omega (arith, l)) heads.1 in
        ((λ i. heads.0 i ∷ tails.0 i), tails.1)

    pub list_once : IsOnce (list_bytes bytes_of) (AreCounted P)
    list_once vs ws r s p q e =
        let split = sym (append_assoc (number_bytes (length vs)) (flat_map bytes_of vs) r) ∙ e
        ∙ append_assoc (number_bytes (length ws)) (flat_map bytes_of ws) s in
        let counts = number_once (length vs) (length ws) (flat_map bytes_of vs ++ r) (flat_map bytes_of ws ++ s) p.0 q.0 split in
        many_once vs ws r s p.1 q.1 counts.0 counts.1

-- ---- lists that are written

-- one value further
pub each_more : {X : Type 0} (bytes_of : X → List ℕ) (first now new : List ℕ) (xs : List X) (i : ℕ) (x : X) → i < length xs → x ≡ get_or xs i x →
    now ≡ first ++ flat_map bytes_of (take i xs) → new ≡ now ++ bytes_of x → new ≡ first ++ flat_map bytes_of (take (i + 1) xs)
each_more {X} bytes_of first now new xs i x lt is written more =
    more ∙ ap (λ (b : List ℕ). b ++ bytes_of x) written ∙ flat_map_more bytes_of first (take i xs) x
    ∙ ap (λ (ys : List X). first ++ flat_map bytes_of ys) (sym (take_more xs i x lt ∙ ap (λ (y : X). take i xs ++ y ∷ []) (sym is)))

-- the bytes are added in two parts
pub in_two : (old mid new first second : List ℕ) → mid ≡ old ++ first → new ≡ mid ++ second → new ≡ old ++ (first ++ second)
in_two old mid new first second one other = other ∙ ap (λ (x : List ℕ). x ++ second) one ∙ append_assoc old first second

pub taken_more : {X : Type 0} (P : X → Type 0) (xs : List X) (i : ℕ) (x : X) → i < length xs → x ≡ get_or xs i x → AllByRecursion P (take i xs) → P x →
    AllByRecursion P (take (i + 1) xs)
taken_more {X} P xs i x lt is all one =
    subst (AllByRecursion P) (sym (take_more xs i x lt ∙ ap (λ (y : X). take i xs ++ y ∷ []) (sym is))) (all_more P (take i xs) x all one)

pub added : {T E : Type 0} (r : Result T E) (old new more whole : List ℕ) → new ≡ (if is_ok r then old ++ more else old) → more ≡ whole →
    OnOk r (new ≡ old ++ whole)
added (Ok x) old new more whole is same = is ∙ ap (λ (y : List ℕ). old ++ y) same
added (Err x) old new more whole is same = tt
