-- What stands before what a record holds: its count with a check of that, and the check of what it holds.
use Rattle.std.proofs.Common.{Fits, w8, rules, ◌≡◌, ℕ, ◌+◌, ◌<◌, ◌^◌, List, [], ◌∷◌, ◌++◌, append_assoc}
use Rattle.std.proofs.Common.{drop, length, length-append, take, refl, slice_index_or, get_or, sym, ap, subst, inl, inr, ◌∙◌, arith}
use Rattle.std.specs.Int.{from_le_bytes, to_le_bytes, w32}
use Rattle.std.proofs.lemmas.Bool.{cases_lt}
use Rattle.std.proofs.lemmas.List.{drop_at, get_or-take, get_or_past, length-take, length-take-le, take-append-drop, take_at}
use Rattle.std.proofs.lemmas.Nat.{from_le_bytes-to_le_bytes_4, le_bytes_4}
use Rattle.sha2.specs.Sha256.{sha256}
use Rattle.sha2.proofs.Facts256.{length-sha256}
use Rattle.history_records.specs.Records.{BeginsWith, BeginsWithCount, FitsRecord, HasNoCount, HasNoRecord, IsCutShort, IsPartOfRecord}
use Rattle.history_records.specs.Records.{check_of, checked_count, count_check_of, record_bytes}

-- the same first parts of one length, and the same rest
pub parts_same : (a b x y : List ℕ) → length a ≡ length b → a ++ x ≡ b ++ y → (a ≡ b) × (x ≡ y)
parts_same [] [] x y l e = (refl, e)
parts_same [] (c ∷ b) x y l e = absurd (omega (arith, l))
parts_same (c ∷ a) [] x y l e = absurd (omega (arith, l))
parts_same (c ∷ a) (d ∷ b) x y l e =
    let heads : c ≡ d = ap (λ (xs : List ℕ). slice_index_or xs 0 0) e in
    let tails : a ++ x ≡ b ++ y = ap (λ (xs : List ℕ). drop 1 xs) e in
    let more = parts_same a b x y (omega (arith, l)) tails in
    ((λ i. heads i ∷ more.0 i), more.1)

number_bytes : (n : ℕ) → length (to_le_bytes w32 n) ≡ 4
number_bytes n = refl

pub check_bytes : (held : List ℕ) → length (check_of held) ≡ 8
unfolding check_of
check_bytes held = omega (arith, length-take 8 (sha256 held), length-sha256 held)

pub count_check_bytes : (count : List ℕ) → length (count_check_of count) ≡ 4
unfolding count_check_of
count_check_bytes count = omega (arith, length-take 4 (sha256 count), length-sha256 count)

pub checked_bytes : (n : ℕ) → length (checked_count n) ≡ 8
checked_bytes n =
    omega (arith, length-append (to_le_bytes w32 n) (count_check_of (to_le_bytes w32 n)), number_bytes n, count_check_bytes (to_le_bytes w32 n))

-- a record, in three parts
pub in_parts : (held rest : List ℕ) → record_bytes held ++ rest ≡ checked_count (length held) ++ (check_of held ++ (held ++ rest))
in_parts held rest =
    append_assoc (checked_count (length held)) (check_of held ++ held) rest
    ∙ ap (λ (x : List ℕ). checked_count (length held) ++ x) (append_assoc (check_of held) held rest)

-- ---- counts with their checks

-- the same four bytes are of one count
same_count : (m n : ℕ) → m < 2 ^ 32 → n < 2 ^ 32 → to_le_bytes w32 m ≡ to_le_bytes w32 n → m ≡ n
same_count m n p q e = sym (from_le_bytes-to_le_bytes_4 m p) ∙ ap (λ (x : List ℕ). from_le_bytes w32 x) e ∙ from_le_bytes-to_le_bytes_4 n q

-- bytes begin with one count at most
pub one_count : (bytes : List ℕ) (m n : ℕ) (behind after : List ℕ) → BeginsWithCount bytes m behind → BeginsWithCount bytes n after →
    (m ≡ n) × (behind ≡ after)
one_count bytes m n behind after a b =
    let heads = parts_same (checked_count m) (checked_count n) behind after (checked_bytes m ∙ sym (checked_bytes n)) (sym a.1 ∙ b.1) in
    let counts = parts_same (to_le_bytes w32 m) (to_le_bytes w32 n) (count_check_of (to_le_bytes w32 m)) (count_check_of (to_le_bytes w32 n))
    (number_bytes m ∙ sym (number_bytes n)) heads.0 in
    (same_count m n a.0 b.0 counts.0, heads.1)

-- a record begins with the count of what it holds
pub count_of_record : (bytes held rest : List ℕ) → BeginsWith bytes held rest →
    BeginsWithCount bytes (length held) (check_of held ++ (held ++ rest))
count_of_record bytes held rest is = (is.0, is.1 ∙ in_parts held rest)

pub count_length : (bytes : List ℕ) (n : ℕ) (behind : List ℕ) → BeginsWithCount bytes n behind → length bytes ≡ 8 + length behind
count_length bytes n behind is = omega (arith, ap length is.1, length-append (checked_count n) behind, checked_bytes n)

-- fewer than eight bytes begin with no count and its check
pub no_count : (bytes : List ℕ) → length bytes < 8 → HasNoCount bytes
no_count bytes few n behind is = absurd (omega (arith, few, count_length bytes n behind is))

-- The parts of bytes: a count's, those of its check, and what stands behind them.
pub record IsSplit (bytes head checked found behind : List ℕ) : Type 0 where
  pub head_is : head ≡ take 4 bytes
  pub checked_is : checked ≡ drop 4 bytes
  pub found_is : found ≡ take 4 checked
  pub behind_is : behind ≡ drop 4 checked

-- the parts are those of a count with its check
pub is_count : (bytes head checked found behind : List ℕ) (n : ℕ) → IsSplit bytes head checked found behind → n ≡ from_le_bytes w32 head → n < 2 ^ 32 →
    length head ≡ 4 → ((i : ℕ) → get_or head i 0 < 256) → found ≡ count_check_of head → BeginsWithCount bytes n behind
is_count bytes head checked found behind n split n_is fits four small same = (
  fits,
  let joined : head ++ checked ≡ bytes =
      ap (λ (x : List ℕ). x ++ checked) split.head_is ∙ ap (λ (x : List ℕ). take 4 bytes ++ x) split.checked_is ∙ take-append-drop 4 bytes in
      let later : found ++ behind ≡ checked =
      ap (λ (x : List ℕ). x ++ behind) split.found_is ∙ ap (λ (x : List ℕ). take 4 checked ++ x) split.behind_is ∙ take-append-drop 4 checked in
      let number : to_le_bytes w32 n ≡ head = le_bytes_4 head n four small n_is in
      sym (append_assoc (to_le_bytes w32 n) (count_check_of (to_le_bytes w32 n)) behind
      ∙ ap (λ (x : List ℕ). x ++ (count_check_of x ++ behind)) number
      ∙ ap (λ (x : List ℕ). head ++ (x ++ behind)) (sym same)
      ∙ ap (λ (x : List ℕ). head ++ x) later ∙ joined),
)

-- the check is another
pub no_confirmed : (bytes head checked found behind : List ℕ) → IsSplit bytes head checked found behind → (found ≡ count_check_of head → ⊥) → HasNoCount bytes
no_confirmed bytes head checked found behind split differs n after is =
    let number = to_le_bytes w32 n in
    let whole : bytes ≡ number ++ (count_check_of number ++ after) = is.1 ∙ append_assoc number (count_check_of number) after in
    let head_of : head ≡ number = split.head_is ∙ ap (λ (x : List ℕ). take 4 x) whole ∙ take_at number (count_check_of number ++ after) 4 (number_bytes n) in
    let checked_of : checked ≡ count_check_of number ++ after =
    split.checked_is ∙ ap (λ (x : List ℕ). drop 4 x) whole ∙ drop_at number (count_check_of number ++ after) 4 (number_bytes n) in
    let found_of : found ≡ count_check_of number =
    split.found_is ∙ ap (λ (x : List ℕ). take 4 x) checked_of ∙ take_at (count_check_of number) after 4 (count_check_bytes number) in
    differs (found_of ∙ sym (ap count_check_of head_of))

-- ---- records

pub one_record : (one rest other more : List ℕ) → FitsRecord one → FitsRecord other → record_bytes one ++ rest ≡ record_bytes other ++ more →
    (one ≡ other) × (rest ≡ more)
one_record one rest other more p q e =
    let counts = one_count (record_bytes one ++ rest) (length one) (length other) (check_of one ++ (one ++ rest)) (check_of other ++ (other ++ more))
    (count_of_record (record_bytes one ++ rest) one rest (p, refl)) (count_of_record (record_bytes one ++ rest) other more (q, e)) in
    let checks = parts_same (check_of one) (check_of other) (one ++ rest) (other ++ more) (check_bytes one ∙ sym (check_bytes other)) counts.1 in
    parts_same one other rest more counts.0 checks.1

-- how many bytes stand behind a record's count
body_length : (held rest : List ℕ) → length (check_of held ++ (held ++ rest)) ≡ 8 + length held + length rest
body_length held rest = omega (arith, length-append (check_of held) (held ++ rest), length-append held rest, check_bytes held)

-- how many bytes a record has, with what stands behind it
pub record_length : (held rest : List ℕ) → length (record_bytes held ++ rest) ≡ 16 + length held + length rest
record_length held rest =
    let first = length-append (checked_count (length held)) (check_of held ++ (held ++ rest)) in
    omega (arith, ap length (in_parts held rest), first, body_length held rest, checked_bytes (length held))

-- bytes that begin with no count begin with no record
pub no_count_no_record : (bytes : List ℕ) → HasNoCount bytes → HasNoRecord bytes
no_count_no_record bytes none held rest is = none (length held) (check_of held ++ (held ++ rest)) (count_of_record bytes held rest is)

-- nor do bytes that have no check of what a record holds behind its count
pub no_check : (bytes behind : List ℕ) (n : ℕ) → BeginsWithCount bytes n behind → length behind < 8 → HasNoRecord bytes
no_check bytes behind n count few held rest is =
    absurd (omega (arith, few, count_length bytes n behind count, ap length is.1, record_length held rest))

-- The parts of bytes behind a count: a check, and what stands behind it.
pub record HasParts (bytes behind found body : List ℕ) (n : ℕ) : Type 0 where
  pub count : BeginsWithCount bytes n behind
  pub found_is : found ≡ take 8 behind
  pub body_is : body ≡ drop 8 behind

module _ (bytes behind found body : List ℕ) (n : ℕ) (parts : HasParts bytes behind found body n) (held rest : List ℕ)
    (is : BeginsWith bytes held rest) where
  counts : (n ≡ length held) × (behind ≡ check_of held ++ (held ++ rest))
  counts = one_count bytes n (length held) behind (check_of held ++ (held ++ rest)) parts.count (count_of_record bytes held rest is)

  pub count_of : n ≡ length held
  count_of = counts.0

  pub found_of : found ≡ check_of held
  found_of = parts.found_is ∙ ap (λ (x : List ℕ). take 8 x) counts.1 ∙ take_at (check_of held) (held ++ rest) 8 (check_bytes held)

  pub body_of : body ≡ held ++ rest
  body_of = parts.body_is ∙ ap (λ (x : List ℕ). drop 8 x) counts.1 ∙ drop_at (check_of held) (held ++ rest) 8 (check_bytes held)

-- the count is greater than what is there
pub no_body : (bytes behind found body : List ℕ) (n : ℕ) → HasParts bytes behind found body n → length body < n → HasNoRecord bytes
no_body bytes behind found body n parts few held rest is =
    absurd (omega (
      arith,
      few,
      count_of bytes behind found body n parts held rest is,
      ap length (body_of bytes behind found body n parts held rest is),
      length-append held rest,
    ))

-- the check is another
pub no_match : (bytes behind found body front : List ℕ) (n : ℕ) → HasParts bytes behind found body n → front ≡ take n body →
    (found ≡ check_of front → ⊥) → HasNoRecord bytes
no_match bytes behind found body front n parts front_is differs held rest is =
    let count = count_of bytes behind found body n parts held rest is in
    let whole = body_of bytes behind found body n parts held rest is in
    let same : front ≡ held = front_is ∙ ap (λ (x : List ℕ). take n x) whole ∙ take_at held rest n (sym count) in
    differs (found_of bytes behind found body n parts held rest is ∙ sym (ap check_of same))

-- the parts are those of a record
pub is_record : (bytes behind found body front back : List ℕ) (n : ℕ) → HasParts bytes behind found body n → front ≡ take n body → back ≡ drop n body →
    length front ≡ n → found ≡ check_of front → BeginsWith bytes front back
is_record bytes behind found body front back n parts front_is back_is long same = (
  rw long parts.count.0,
  let later : found ++ body ≡ behind =
      ap (λ (x : List ℕ). x ++ body) parts.found_is ∙ ap (λ (x : List ℕ). take 8 behind ++ x) parts.body_is ∙ take-append-drop 8 behind in
      let last : front ++ back ≡ body =
      ap (λ (x : List ℕ). x ++ back) front_is ∙ ap (λ (x : List ℕ). take n body ++ x) back_is ∙ take-append-drop n body in
      sym (in_parts front back
      ∙ ap (λ (m : ℕ). checked_count m ++ (check_of front ++ (front ++ back))) long
      ∙ ap (λ (x : List ℕ). checked_count n ++ (x ++ (front ++ back))) (sym same)
      ∙ ap (λ (x : List ℕ). checked_count n ++ (found ++ x)) last
      ∙ ap (λ (x : List ℕ). checked_count n ++ x) later ∙ sym parts.count.1),
)

-- ---- bytes that are cut short

-- the first bytes of a record that are not all of it
pub cut_of_record : (held rest bytes cut : List ℕ) → FitsRecord held → bytes ++ cut ≡ record_bytes held ++ rest → length bytes < 16 + length held →
    IsCutShort bytes
cut_of_record held rest bytes cut fits whole few = elim (cases_lt (length bytes) 8) [
  | inl short ↦ inl short
  | inr long ↦
      let front = take 8 bytes in
      let behind = drop 8 bytes in
      let heads = parts_same front (checked_count (length held)) (behind ++ cut) (check_of held ++ (held ++ rest))
      (length-take-le 8 bytes long ∙ sym (checked_bytes (length held)))
      (sym (append_assoc front behind cut) ∙ ap (λ (x : List ℕ). x ++ cut) (take-append-drop 8 bytes) ∙ whole ∙ in_parts held rest) in
      let count : BeginsWithCount bytes (length held) behind =
      (fits, sym (take-append-drop 8 bytes) ∙ ap (λ (x : List ℕ). x ++ behind) heads.0) in
      inr (inl (length held, behind, count, omega (arith, few, count_length bytes (length held) behind count)))
]

-- bytes that begin with no count are no part of a record
pub no_part : (bytes : List ℕ) → HasNoCount bytes → IsPartOfRecord bytes → ⊥
no_part bytes none part = none part.0 part.1 part.2

-- ---- bytes are small

below_256 : (x : ℕ) → Fits w8 x → x < 256
below_256 x fits = search rules

pub small_front : (n : ℕ) (bytes front : List ℕ) → ((i : ℕ) → Fits w8 (get_or bytes i 0)) → front ≡ take n bytes → (i : ℕ) → get_or front i 0 < 256
small_front n bytes front fits is i =
    subst (λ (xs : List ℕ). get_or xs i 0 < 256) (sym is) (elim (cases_lt i n) [
      | inl lt ↦ subst (λ (x : ℕ). x < 256) (sym (get_or-take n bytes i 0 lt)) (below_256 (get_or bytes i 0) (fits i))
      | inr ge ↦ subst (λ (x : ℕ). x < 256) (sym (get_or_past (take n bytes) i 0 (omega (arith, ge, length-take n bytes)))) (omega arith)
    ])
