-- Texts without what stands before or behind them, and paths as people write them.
use Rattle.std.specs.Prelude.{◌-◌, ℕ, List, codes, drop, if◌then◌else◌, length, nat_eq, take}
use Rattle.std.specs.List.{ends_with, starts_with}

-- The text without this before it, where it begins so.
abbrev pub without_prefix : (prefix text : List ℕ) → List ℕ
without_prefix prefix text = if starts_with nat_eq text prefix then drop (length prefix) text else text

-- The text without this behind it, where it ends so.
abbrev pub without_suffix : (suffix text : List ℕ) → List ℕ
without_suffix suffix text = if ends_with nat_eq text suffix then take (length text - length suffix) text else text

-- The path without `./` before it and `/` behind it.
abbrev pub plain_path : List ℕ → List ℕ
plain_path path = without_suffix (codes "/") (without_prefix (codes "./") path)
