-- The bytes that words of places name in the files of a folder.
use Rattle.std.specs.Prelude.{◌≡◌, ℕ, List, ◌++◌, Option, None, Some, MatchOption, string_bytes}
use Rattle.base_files.specs.Path.{IsPath}
use Rattle.base_files.specs.Workspace.{Workspace}
use Rattle.std.specs.FinMap as finmap
use Rattle.tool_text.specs.Places.{HasNoPlace, IsPlaceWord}
use Rattle.tool_text.specs.Plain.{plain_path}
use Rattle.tool_text.specs.Positions.{HasNoOffset, IsOffsetOf}
use Rattle.tool_text.specs.declared.places.AskedPlace.{AskedPlace}
use Rattle.tool_text.specs.declared.places.Spot.{Spot}
use Rattle.tool_text.specs.declared.places.Spot.TheVariants.{At, Offset}
use Rattle.tool_told.specs.declared.asked.NamedPlace.{NamedPlace}
use Rattle.tool_told.specs.declared.asked.NamedPlace.TheVariants.{NoPlace, NoPosition, Byte}

-- The offset of a spot in a text, if it has such a position. Where there is no text, the position stands for its begin.
abbrev pub FindsOffset : Option (List ℕ) → Spot → Option ℕ → Type 0
FindsOffset text (Offset offset) found = found ≡ Some offset
FindsOffset None (At at) found = found ≡ Some 0
FindsOffset (Some text) (At at) found = MatchOption found (HasNoOffset text at) (IsOffsetOf text at)

-- The path in the workspace of a path below the folder.
abbrev pub path_below : (prefix path : List ℕ) → List ℕ
path_below prefix path = prefix ++ plain_path path

-- The text of the file at a path, if there is one. No file has a path that is none.
pub record FindsText (files : Workspace) (path : List ℕ) (text : Option (List ℕ)) : Type 0 where
  pub at_path : IsPath 1 path → text ≡ finmap.get files path
  pub no_path : (IsPath 1 path → ⊥) → text ≡ None

-- What the spot behind a path names: an offset, or a position that the file does not have.
pub record FindsSpot (files : Workspace) (path : List ℕ) (spot : Spot) (found : Option ℕ) : Type 0 where
  pub text : Option (List ℕ)
  pub at_path : FindsText files path text
  pub at_spot : FindsOffset text spot found

-- What a word names: no place, a position that its file does not have, or a byte.
abbrev pub NamesPlace : Workspace → (prefix word : List ℕ) → NamedPlace → Type 0
NamesPlace files prefix word NoPlace = HasNoPlace word
NamesPlace files prefix word NoPosition =
    (asked : AskedPlace) × IsPlaceWord word asked × FindsSpot files (path_below prefix asked.path.now) asked.spot None
NamesPlace files prefix word (Byte path offset) =
    (asked : AskedPlace) × IsPlaceWord word asked × (string_bytes path ≡ path_below prefix asked.path.now)
    × FindsSpot files (path_below prefix asked.path.now) asked.spot (Some offset)
