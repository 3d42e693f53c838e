-- The identifier at a byte of a file.
use Rattle.std.specs.Prelude.{ℕ, ◌≡◌, ◌<◌, ◌≤◌, ◌+◌, List, length, Option, Some, None, slice_get}
use Rattle.go_scanner.specs.Cuts.{IsCut}
use Rattle.go_ast.specs.SourceFile.{SourceFile, spelling_of, offset_of}
use Rattle.go_scope.specs.Bindings.{Layout, IsIdentifier}

-- There is a file, it has the path, and the offset is one of the bytes of its token of that index.
abbrev pub TokenCovers : Option SourceFile → ℕ → List ℕ → ℕ → Type 0
TokenCovers None token path offset = ⊥
TokenCovers (Some f) token path offset = (f.path ≡ path) × (offset_of f token ≤ offset) × (offset < offset_of f token + length (spelling_of f token))

-- The offset of the file at the path is one of the bytes of `u`, which is an identifier or an import's string literal.
abbrev pub CoversByte : List SourceFile → Layout → (path : List ℕ) → (offset u : ℕ) → Type 0
CoversByte files l path offset u = IsIdentifier l u × TokenCovers (slice_get files (l.place u).file) (l.place u).index path offset

-- The pieces of each file are those into which the scanner cuts its text.
abbrev pub AreCut : List SourceFile → Type 0
AreCut files = (i : ℕ) (f : SourceFile) → slice_get files i ≡ Some f → IsCut f.cut.text f.cut.pieces

-- No two files have one path.
abbrev pub HaveOwnPaths : List SourceFile → Type 0
HaveOwnPaths files = (i j : ℕ) (f g : SourceFile) → slice_get files i ≡ Some f → slice_get files j ≡ Some g → f.path ≡ g.path → i ≡ j
