-- A parsed file: its path, its text with tokens, its tree, and the spelling and offset of each token.
use Rattle.std.specs.Prelude.{ℕ, List, [], Option, Some, None, length, slice_get}
use Rattle.go_scanner.specs.declared.piece.Piece.{Piece}
use Rattle.go_scanner.specs.Cuts.{IsCut, bytes_of}
use Rattle.go_scanner.specs.CutText.{CutText, tokens_in}
use Rattle.go_ast.specs.FileView.{file_view}
use Rattle.go_ast.specs.declared.tree.File.{File}
use Rattle.go_ast.specs.Kinds.{kinds_of}
use Rattle.go_ast.specs.Tree.{FileTree}
use Rattle.go_ast.specs.Verdict.{IsWhole}
use Rattle.go_ast.specs.WellFormed.{IsTreeOf}

-- a file with its path, its cut text and its tree
pub record SourceFile : Type 0 where
  pub path : List ℕ
  pub cut : CutText
  pub tree : FileTree

-- the parts of the program's `FileTree`, with its tree as the program has it
pub record FileParts : Type 0 where
  pub path : List ℕ
  pub cut : CutText
  pub file : File

-- the source file of the program's file
abbrev pub source_of : FileParts → SourceFile
source_of f = record { path = f.path; cut = f.cut; tree = file_view f.file }

-- the pieces are the cut of the text, and the tree is that of its tokens, which keep the limit of nesting
pub record IsSourceFile (f : SourceFile) : Type 0 where
  pub is_cut : IsCut f.cut.text f.cut.pieces
  pub is_tree : IsTreeOf f.tree (kinds_of f.cut)
  pub whole : IsWhole (kinds_of f.cut)

-- the bytes of an optional token, none without one
abbrev pub spelling_at : List ℕ → Option Piece → List ℕ
spelling_at text None = []
spelling_at text (Some p) = bytes_of text p

-- the bytes of the token of index n; none beyond the last token
abbrev pub spelling_of : SourceFile → ℕ → List ℕ
spelling_of f n = spelling_at f.cut.text (slice_get (tokens_in f.cut) n)

-- the offset of an optional token, or the end of the text without one
abbrev pub offset_at : List ℕ → Option Piece → ℕ
offset_at text None = length text
offset_at text (Some p) = p.span.start

-- the offset at which the token of index n begins; the file's end beyond the last token
abbrev pub offset_of : SourceFile → ℕ → ℕ
offset_of f n = offset_at f.cut.text (slice_get (tokens_in f.cut) n)
