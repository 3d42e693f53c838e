-- The values of integer literals.
use Rattle.std.specs.Prelude.{ℕ, ◌^◌, nat_lt, if◌then◌else◌, List, Option, Some, None}
use Rattle.go_scanner.specs.Integers.{integer_value}

-- The value of the integer literal with these bytes. There is none where it is 2^63 or more.
abbrev pub literal_number : List ℕ → Option ℕ
literal_number bytes = if nat_lt (integer_value bytes) (2 ^ 63) then Some (integer_value bytes) else None
