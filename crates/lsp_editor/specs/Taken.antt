-- Which documents are files of the packages that are looked at.
use Rattle.std.specs.Prelude.{ℕ, ◌&&◌, Bool, false, not, List, [], ◌∷◌}
use Rattle.tool_text.specs.Parts.{parts}
use Rattle.tool_text.specs.Taken.{has_build_line, names_platform, takes_file, takes_folder}

-- Whether Go takes a file of this name on each platform.
abbrev pub takes_name : List ℕ → Bool
takes_name name = takes_file name && not (names_platform name)

-- Whether Go looks into these folders, and takes the file behind them.
abbrev pub takes_below : List (List ℕ) → Bool
takes_below [] = false
takes_below (name ∷ []) = takes_name name
takes_below (folder ∷ name ∷ others) = takes_folder folder && takes_below (name ∷ others)

-- Whether Go looks into all folders of a path, and takes its file.
abbrev pub takes_path : List ℕ → Bool
takes_path path = takes_below (parts 47 path)

-- Whether a text at a path is a file of a package, which no build constraint restricts.
abbrev pub takes_text : (path text : List ℕ) → Bool
takes_text path text = takes_path path && not (has_build_line text)
