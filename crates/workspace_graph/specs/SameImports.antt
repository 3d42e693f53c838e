-- Two files that import the same paths.
use Rattle.std.specs.Prelude.{◌≡◌, ◌↔◌, ℕ, List, Some, slice_get}
use Rattle.std.specs.List.{Contains}
use Rattle.go_scanner.specs.declared.piece.Piece.{Piece}
use Rattle.go_scanner.specs.Cuts.{bytes_of}
use Rattle.go_scanner.specs.CutText.{tokens_in}
use Rattle.go_scanner.specs.TokenValues.{IsStringClass}
use Rattle.go_ast.specs.SourceFile.{FileParts, SourceFile, source_of}
use Rattle.workspace_graph.specs.Packages.{ImportsPath}

-- Both files have a string literal at that token index, with the same bytes.
pub record AreAlikeAt (one other : SourceFile) (token : ℕ) : Type 0 where
  pub first : Piece
  pub second : Piece
  pub first_at : slice_get (tokens_in one.cut) token ≡ Some first
  pub second_at : slice_get (tokens_in other.cut) token ≡ Some second
  pub first_string : IsStringClass first.class
  pub second_string : IsStringClass second.class
  pub bytes : bytes_of one.cut.text first ≡ bytes_of other.cut.text second

-- Both files import the same paths.
abbrev pub ImportSamePaths : SourceFile → SourceFile → Type 0
ImportSamePaths one other = (q : List ℕ) → ImportsPath one q ↔ ImportsPath other q

-- One of the trees has the path of the tree `t`, and imports the same paths.
abbrev pub HasTreeAlike : List FileParts → FileParts → Type 0
HasTreeAlike trees t = (before : FileParts) × Contains trees before × (before.path ≡ t.path) × ImportSamePaths (source_of before) (source_of t)
