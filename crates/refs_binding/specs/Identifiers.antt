-- The identifiers in the files of a package: where each begins, and which bytes it holds.
use Rattle.std.specs.Prelude.{ℕ, ◌≡◌, ◌<◌, ◌-◌, Bool, true, false, List, Option, Some, None, slice_get, if◌then◌else◌}
use Rattle.go_scanner.specs.declared.piece.Piece.{Piece}
use Rattle.go_scanner.specs.declared.piece.Class.TheVariants.{Name}
use Rattle.go_scanner.specs.CutText.{tokens_in}
use Rattle.go_ast.specs.SourceFile.{SourceFile, offset_of}
use Rattle.go_scope.specs.declared.model.Role.{Role}
use Rattle.go_scope.specs.declared.model.Role.TheVariants.{NotLexical}
use Rattle.go_scope.specs.declared.model.Purpose.TheVariants.{ImportPath}
use Rattle.go_scope.specs.Bindings.{Layout, IsIdentifier}
use Rattle.law_tokens.specs.Bytes.{TokenCovers}
use Rattle.types_declared.specs.Package.{Package}

-- `u` is the number of an identifier or of an import's path literal in a file of the package.
abbrev pub IsInFiles : Package → ℕ → Type 0
IsInFiles p u = (u < p.size) × IsIdentifier p.layout u

-- The file of an identifier.
abbrev pub file_of : Package → ℕ → Option SourceFile
file_of p u = slice_get p.files (p.layout.place u).file

-- The token is an identifier.
abbrev pub IsNameToken : Option Piece → Type 0
IsNameToken None = ⊥
IsNameToken (Some token) = token.class ≡ Name

-- The token of the file is an identifier and begins at this path and byte offset.
abbrev pub NameBegins : Option SourceFile → ℕ → List ℕ → ℕ → Type 0
NameBegins None token path offset = ⊥
NameBegins (Some f) token path offset = IsNameToken (slice_get (tokens_in f.cut) token) × (f.path ≡ path) × (offset_of f token ≡ offset)

-- The identifier `u` begins at this path and byte offset. It is no import's path literal.
abbrev pub BeginsAt : Package → List ℕ → ℕ → ℕ → Type 0
BeginsAt p path offset u = IsInFiles p u × NameBegins (file_of p u) (p.layout.place u).index path offset

-- The token of `u`, an identifier or an import's path literal, holds the byte at this path and offset.
abbrev pub HoldsByte : Package → List ℕ → ℕ → ℕ → Type 0
HoldsByte p path offset u = IsInFiles p u × TokenCovers (file_of p u) (p.layout.place u).index path offset

-- The role is that of the path literal of an import that has a name.
abbrev pub is_named_literal : Role → Bool
is_named_literal (NotLexical ImportPath) = true
is_named_literal role = false

-- The identifier that `u` stands for. The path literal of an import with a name stands for the name, which is the identifier before it: in
-- `import f "fmt"` the literal stands for `f`. Every other identifier stands for itself.
abbrev pub named_by : Layout → ℕ → ℕ
named_by l u = if is_named_literal (l.role u) then u - 1 else u
