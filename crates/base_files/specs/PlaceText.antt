-- How places and faults are written in replies.
use Rattle.std.specs.Prelude.{ℕ, List, [], ◌∷◌, ◌++◌, codes, decimal}
use Rattle.base_files.specs.FaultNames.{fault_word}
use Rattle.base_files.specs.declared.fault_kind.FaultKind.{FaultKind}
use Rattle.base_files.specs.declared.place.Place.{Place}

-- The text of a place: its path, `:#`, and its byte offset in decimal.
abbrev pub place_text : Place → List ℕ
place_text place = place.path ++ codes ":#" ++ decimal place.offset

-- The line of a fault: its place, a blank, the word for its kind, and a line feed.
abbrev pub fault_line : Place → FaultKind → List ℕ
fault_line place kind = place_text place ++ 32 ∷ [] ++ fault_word kind ++ 10 ∷ []
