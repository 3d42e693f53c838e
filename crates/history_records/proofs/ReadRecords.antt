-- Records read one after another.
use Rattle.std.proofs.Common.{◌≡◌, ◌<◌, ◌≤◌, ℕ, List, [], ◌∷◌, ◌++◌, length, refl, sym, ap, subst, arith}
use Rattle.history_records.specs.Records.{BeginsWith, HasNoRecord, HasRecords}
use Rattle.history_records.proofs.Heads.{record_length}

-- these records stand one behind the other, and `left` behind them
pub HasReadTo : (bytes : List ℕ) → List (List ℕ) → (left : List ℕ) → Type 0
HasReadTo bytes [] left = bytes ≡ left
HasReadTo bytes (held ∷ more) left = (rest : List ℕ) × BeginsWith bytes held rest × HasReadTo rest more left

pub read_none : (bytes : List ℕ) → HasReadTo bytes [] bytes
unfolding HasReadTo
read_none bytes = refl

pub read_more : (bytes : List ℕ) (found : List (List ℕ)) (left held rest : List ℕ) → HasReadTo bytes found left → BeginsWith left held rest →
    HasReadTo bytes (found ++ held ∷ []) rest
unfolding HasReadTo
read_more bytes [] left held rest is next = (rest, subst (λ (x : List ℕ). BeginsWith x held rest) (sym is) next, refl)
read_more bytes (one ∷ found) left held rest is next = (is.0, is.1, read_more is.0 found left held rest is.2 next)

pub read_all : (bytes : List ℕ) (found : List (List ℕ)) (left : List ℕ) → HasReadTo bytes found left → HasNoRecord left → HasRecords bytes found left
unfolding HasReadTo
read_all bytes [] left is none = (is, none)
read_all bytes (one ∷ found) left is none = (is.0, is.1, read_all is.0 found left is.2 none)

pub fewer_left : (left held rest : List ℕ) → BeginsWith left held rest → length rest < length left
fewer_left left held rest is = omega (arith, ap length is.1, record_length held rest)

-- no more bytes stand behind the records than there are
pub torn_within : (bytes : List ℕ) (found : List (List ℕ)) (torn : List ℕ) → HasRecords bytes found torn → length torn ≤ length bytes
torn_within bytes [] torn has = omega (arith, ap length has.0)
torn_within bytes (held ∷ found) torn has =
    omega (arith, torn_within has.0 found torn has.2, ap length has.1.1, record_length held has.0)
