-- How many tokens the files of a package have: the bound of the room that lists of its identifiers ask for.
use Rattle.std.specs.Prelude.{ℕ, List, length, sum_by}
use Rattle.go_scanner.specs.CutText.{tokens_in}
use Rattle.go_ast.specs.SourceFile.{FileParts}

-- the number of tokens in all files
abbrev pub token_count : List FileParts → ℕ
token_count files = sum_by (λ (f : FileParts). length (tokens_in f.cut)) files
