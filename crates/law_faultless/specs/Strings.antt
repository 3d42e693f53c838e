-- The strings of a package's files have values.
use Rattle.std.specs.Prelude.{ℕ, ◌≡◌, List, Some, slice_get}
use Rattle.go_scanner.specs.Cuts.{bytes_of}
use Rattle.go_scanner.specs.CutText.{token_at}
use Rattle.go_scanner.specs.StringValues.{HasStringValue}
use Rattle.go_scanner.specs.TokenValues.{IsStringClass}
use Rattle.go_ast.specs.SourceFile.{SourceFile}
use Rattle.types_declared.specs.Package.{Package}

-- Each string among the tokens of a file of the package has a value.
abbrev pub AreStringsKnown : Package → Type 0
AreStringsKnown p = (file : ℕ) (s : SourceFile) → slice_get p.files file ≡ Some s → (token : ℕ) → IsStringClass (token_at s.cut token).class →
    (value : List ℕ) × HasStringValue (bytes_of s.cut.text (token_at s.cut token)) value
