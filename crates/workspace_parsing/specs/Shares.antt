-- How the files of a workspace are shared out among threads: by the bytes of their folders.
use Rattle.std.specs.Prelude.{◌≡◌, ℕ, ◌+◌, ◌%◌, ◌<◌, ◌&&◌, List, Bool, None, Result, IfOk, fold, cond, length, nat_le, nat_lt, slice_index_or}
use Rattle.std.specs.FinMap as files
use Rattle.base_files.specs.Path.{folder}
use Rattle.base_files.specs.Workspace.{Workspace}

-- The number of shares.
abbrev pub share_count : ℕ
share_count = 8

-- The share of all files in a folder: what is left of the sum of its bytes.
abbrev pub share_of : List ℕ → ℕ
share_of folder = fold (λ share byte. (share + byte) % share_count) 0 folder

-- Whether a file has a share from `low` on and below `high`.
abbrev pub is_between : (low high : ℕ) → List ℕ → Bool
is_between low high path = nat_le low (share_of (folder path)) && nat_lt (share_of (folder path)) high

-- `part` has just the files of `w` with a share from `low` on and below `high`.
abbrev pub IsPartBetween : Workspace → (low high : ℕ) → Workspace → Type 0
IsPartBetween w low high part = (path : List ℕ) → files.get part path ≡ cond (is_between low high path) (files.get w path) None

-- Where memory suffices, the graph of the files is given.
abbrev pub GivesGraph : {E : Type 0} → Workspace → Result Workspace E → Type 0
GivesGraph part given = IfOk given (λ graph. graph ≡ part)

-- Where memory suffices, the files of a share are given.
abbrev pub GivesShare : {E : Type 0} → Workspace → (number : ℕ) → Result Workspace E → Type 0
GivesShare w number given = IfOk given (IsPartBetween w number (number + 1))

-- The shares are given in order, from the first on.
abbrev pub GiveShares : {E : Type 0} → Workspace → List (Result Workspace E) → Type 0
GiveShares {E} w given = (i : ℕ) (d : Result Workspace E) → i < length given → GivesShare w i (slice_index_or given i d)
