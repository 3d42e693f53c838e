-- The exit statuses of the program.
use Rattle.std.specs.Prelude.{◌≡◌, ◌≤◌, ℕ, List, ⊤, string_bytes}
use Rattle.server_words.specs.declared.reading.RequestFault.{RequestFault}
use Rattle.server_words.specs.declared.reading.RequestFault.TheVariants.{Memory, Help, Version, Usage}

-- The status behind words that make no request: 2 for a usage text, and 1 for want of memory. Behind a text of help or of the version it is
-- 0, or 1 where the text can't be written.
abbrev pub IsStatusOf : RequestFault → (status : ℕ) → Type 0
IsStatusOf Memory status = status ≡ 1
IsStatusOf (Help text) status = status ≤ 1
IsStatusOf (Version text) status = status ≤ 1
IsStatusOf (Usage text) status = status ≡ 2

-- Words that can't be read are a usage text, this one, or memory is wanting.
abbrev pub IsUnread : List ℕ → RequestFault → Type 0
IsUnread usage Memory = ⊤
IsUnread usage (Help text) = ⊥
IsUnread usage (Version text) = ⊥
IsUnread usage (Usage text) = string_bytes text ≡ usage
