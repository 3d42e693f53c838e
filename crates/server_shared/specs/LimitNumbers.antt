-- The limits of a book or of a session, as numbers.
use Rattle.std.specs.Prelude.{ℕ, List, [], ◌∷◌}
use Rattle.base_files.specs.declared.limits.Limits.{Limits}

-- the limits, in the order of their fields
abbrev pub limit_numbers : Limits → List ℕ
limit_numbers limits =
    limits.file_bytes ∷ limits.files ∷ limits.total_bytes ∷ limits.packages ∷ limits.undo_depth ∷ limits.journal ∷ limits.command_bytes
    ∷ limits.reads
    ∷ []

-- the greatest limits that a server has
abbrev pub full_limits : List ℕ
full_limits = 1048576 ∷ 4096 ∷ 67108864 ∷ 1024 ∷ 100 ∷ 1000000 ∷ 1024 ∷ 1000000000 ∷ []
