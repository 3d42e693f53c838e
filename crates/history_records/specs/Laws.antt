-- The laws of records, and of changes as bytes.
use Rattle.std.specs.Prelude.{◌≡◌, ◌≢◌, ◌≤◌, ℕ, List, ◌++◌, length}
use Rattle.std.specs.Int.{to_le_bytes, w32}
use Rattle.std.specs.List.{AllByRecursion}
use Rattle.history_records.specs.Encoded.{AreBytesOf}
use Rattle.history_records.specs.Records.{AreRecords, AreZeros, BeginsWith, FitsRecord, HasNoCount, HasNoRecord, HasRecords, IsCutShort, IsDamaged}
use Rattle.history_records.specs.Records.{check_of, count_check_of, records_bytes}
use Rattle.history_records.specs.declared.change.KeptChange.{KeptChange}
use Rattle.history_records.specs.declared.reading.WholeRecords.{WholeRecords}

-- Bytes begin with one record at most.
abbrev pub OneFirstRecord : Type 0
OneFirstRecord = (bytes one rest other more : List ℕ) → BeginsWith bytes one rest → BeginsWith bytes other more → (one ≡ other) × (rest ≡ more)

-- The records that were written are found, and no others, where what stands behind them begins with no record.
abbrev pub RecordsAreFound : Type 0
RecordsAreFound = (written : List (List ℕ)) (torn : List ℕ) → AllByRecursion FitsRecord written → HasNoRecord torn
    → HasRecords (records_bytes written ++ torn) written torn

-- Of the records that were written the first ones are found, where a first part of their bytes is read. `cut` is what is left out. What stands
-- behind the ones that are found is a record that was cut off.
abbrev pub CutsLeaveFirstRecords : Type 0
CutsLeaveFirstRecords = (written found : List (List ℕ)) (bytes cut torn : List ℕ) → AllByRecursion FitsRecord written
    → bytes ++ cut ≡ records_bytes written → HasRecords bytes found torn
    → (lost : List (List ℕ)) × (written ≡ found ++ lost) × IsCutShort torn

-- Where records end, eight bytes or more that begin with no count that a check confirms are damage, unless all are zero.
abbrev pub UnconfirmedCountsAreDamage : Type 0
UnconfirmedCountsAreDamage = (written : List (List ℕ)) (bytes : List ℕ) → AllByRecursion FitsRecord written → 8 ≤ length bytes → HasNoCount bytes
    → ¬ (AreZeros bytes) → IsDamaged (records_bytes written ++ bytes)

-- the bytes of the record that holds these, but for its count, in whose place other bytes stand
abbrev pub recounted : (count held : List ℕ) → List ℕ
recounted count held = count ++ (count_check_of (to_le_bytes w32 (length held)) ++ (check_of held ++ held))

-- A record whose count alone was changed is damage, whatever stands behind it: a greater count is not taken for a record that was cut off.
-- The four bytes in place of the count have another check than the count, and what is there is not all zeros.
abbrev pub ChangedCountsAreDamage : Type 0
ChangedCountsAreDamage = (written : List (List ℕ)) (count held behind : List ℕ) → AllByRecursion FitsRecord written → length count ≡ 4
    → count_check_of count ≢ count_check_of (to_le_bytes w32 (length held)) → ¬ (AreZeros (recounted count held ++ behind))
    → IsDamaged (records_bytes written ++ (recounted count held ++ behind))

-- Records are not returned from bytes that are damaged.
abbrev pub DamageIsNotCut : Type 0
DamageIsNotCut = (bytes : List ℕ) (found : WholeRecords) → IsDamaged bytes → AreRecords bytes found → ⊥

-- Bytes are those of one change at most.
abbrev pub OneChangeOfBytes : Type 0
OneChangeOfBytes = (bytes : List ℕ) (one other : KeptChange) → AreBytesOf bytes one → AreBytesOf bytes other → one ≡ other
