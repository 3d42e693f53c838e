-- When a chapter is to be closed.
use Rattle.std.specs.Prelude.{◌≡◌, ◌≤◌, ℕ}
use Rattle.server_shared.specs.declared.chapters.Closing.{Closing}

-- The chapter with so many entries is to be closed: it has reached its length, and no seat is held back with receipts.
abbrev pub IsDue : Closing → ℕ → Type 0
IsDue closing entries = (closing.held_back ≡ 0) × (closing.due ≤ entries)
