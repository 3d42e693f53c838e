-- Records as bytes, and which records bytes begin with.
use Rattle.std.specs.Prelude.{◌≡◌, ◌⊎◌, ℕ, ◌+◌, ◌<◌, ◌^◌, List, [], ◌∷◌, ◌++◌, length, map, take, ⊤}
use Rattle.std.specs.Int.{to_le_bytes, w32}
use Rattle.std.specs.List.{All}
use Rattle.sha2.specs.Sha256.{sha256}
use Rattle.history_records.specs.declared.reading.RecordsFault.{RecordsFault}
use Rattle.history_records.specs.declared.reading.RecordsFault.TheVariants.{Memory, Damaged}
use Rattle.history_records.specs.declared.reading.WholeRecords.{WholeRecords}

-- the check of what a record holds: the first eight bytes of its SHA-256 digest
unfoldable pub check_of : List ℕ → List ℕ
check_of held = take 8 (sha256 held)

-- the check of a count's four bytes: the first four bytes of their SHA-256 digest
unfoldable pub count_check_of : List ℕ → List ℕ
count_check_of count = take 4 (sha256 count)

-- a count in four bytes, the lowest first, and the check of these
abbrev pub checked_count : ℕ → List ℕ
checked_count n = to_le_bytes w32 n ++ count_check_of (to_le_bytes w32 n)

-- the bytes of the record that holds these: their count with a check of its own, their check, and they themselves
abbrev pub record_bytes : List ℕ → List ℕ
record_bytes held = checked_count (length held) ++ (check_of held ++ held)

-- the bytes of records, one behind the other
abbrev pub records_bytes : List (List ℕ) → List ℕ
records_bytes [] = []
records_bytes (held ∷ more) = record_bytes held ++ records_bytes more

-- the count of these bytes fits in four bytes
abbrev pub FitsRecord : List ℕ → Type 0
FitsRecord held = length held < 2 ^ 32

-- the bytes are those of the record that holds `held`, and then `rest`
abbrev pub BeginsWith : (bytes held rest : List ℕ) → Type 0
BeginsWith bytes held rest = FitsRecord held × (bytes ≡ record_bytes held ++ rest)

-- the bytes begin with no record
abbrev pub HasNoRecord : List ℕ → Type 0
HasNoRecord bytes = (held rest : List ℕ) → BeginsWith bytes held rest → ⊥

-- the records with which these bytes begin hold these, and behind them stand bytes that begin with no record
abbrev pub HasRecords : (bytes : List ℕ) → List (List ℕ) → (torn : List ℕ) → Type 0
HasRecords bytes [] torn = (bytes ≡ torn) × HasNoRecord torn
HasRecords bytes (held ∷ more) torn = (rest : List ℕ) × BeginsWith bytes held rest × HasRecords rest more torn

-- the bytes are this count with its check, and then `behind`
abbrev pub BeginsWithCount : (bytes : List ℕ) (count : ℕ) (behind : List ℕ) → Type 0
BeginsWithCount bytes count behind = (count < 2 ^ 32) × (bytes ≡ checked_count count ++ behind)

-- the bytes begin with no count that a check confirms
abbrev pub HasNoCount : List ℕ → Type 0
HasNoCount bytes = (count : ℕ) (behind : List ℕ) → BeginsWithCount bytes count behind → ⊥

-- Behind a count that its check confirms, the bytes have fewer than the record has there.
abbrev pub IsPartOfRecord : List ℕ → Type 0
IsPartOfRecord bytes = (count : ℕ) × (behind : List ℕ) × BeginsWithCount bytes count behind × (length behind < 8 + count)

-- each byte is zero
abbrev pub AreZeros : List ℕ → Type 0
AreZeros bytes = All (λ byte. byte ≡ 0) bytes

-- A crash leaves such bytes of a record that was not flushed. They are fewer than a count with its check has, or a first part of the record.
-- Or they are zeros, as where a file grew and nothing of what was written came.
abbrev pub IsCutShort : List ℕ → Type 0
IsCutShort bytes = (length bytes < 8) ⊎ (IsPartOfRecord bytes ⊎ AreZeros bytes)

-- these are the records with which the bytes begin, and so many bytes of a record that was cut off stand behind them
abbrev pub AreRecords : List ℕ → WholeRecords → Type 0
AreRecords bytes found = (torn : List ℕ) × HasRecords bytes (map (λ held. held.now) found.held.items) torn × (found.torn ≡ length torn) × IsCutShort torn

-- Behind the records with which the bytes begin stand bytes that no cut leaves.
abbrev pub IsDamaged : List ℕ → Type 0
IsDamaged bytes = (found : List (List ℕ)) × (torn : List ℕ) × HasRecords bytes found torn × ¬ (IsCutShort torn)

-- why the records of these bytes are not returned
abbrev pub FailsToFind : List ℕ → RecordsFault → Type 0
FailsToFind bytes Memory = ⊤
FailsToFind bytes Damaged = IsDamaged bytes
