-- The code units in which editors count columns.
use Rattle.std.specs.Prelude.{ℕ, Bool, List, ◌&&◌, if◌then◌else◌, nat_le, nat_lt}
use Rattle.std.specs.List.{sum_by}
use Rattle.lsp_position.specs.declared.units.PositionEncoding.{PositionEncoding}
use Rattle.lsp_position.specs.declared.units.PositionEncoding.TheVariants.{Utf8, Utf16}

-- Whether the byte continues a character that an earlier byte began.
abbrev pub continues_character : ℕ → Bool
continues_character byte = nat_le 128 byte && nat_lt byte 192

-- How many code units a byte adds to its line. In UTF-8 each byte is one. In UTF-16 the first byte of a character counts for all of it: a
-- character of four bytes is two units, and each other one is one.
abbrev pub unit_count : PositionEncoding → ℕ → ℕ
unit_count Utf8 byte = 1
unit_count Utf16 byte = if continues_character byte then 0 else (if nat_lt byte 240 then 1 else 2)

-- How many code units a text has.
abbrev pub units : PositionEncoding → List ℕ → ℕ
units encoding = sum_by (unit_count encoding)
