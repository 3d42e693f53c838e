-- The files of a package in the order of their paths, each with its rank; their imports and package clauses.
use Rattle.std.specs.Prelude.{ℕ, List, [], ◌∷◌, map}
use Rattle.std.specs.List.{flat_map, enumerate_from}
use Rattle.go_scanner.specs.Cuts.{bytes_of}
use Rattle.go_scanner.specs.CutText.{token_at}
use Rattle.go_scanner.specs.StringValues.{HasStringValue}
use Rattle.go_scanner.specs.TokenValues.{IsStringClass}
use Rattle.go_ast.specs.Tree.{Group, single, several, ImportTree, FileTree}
use Rattle.go_ast.specs.SourceFile.{SourceFile, spelling_of}

-- a file with its rank
abbrev pub RankedSource : Type 0
RankedSource = ℕ × SourceFile

-- the files, each with its rank
abbrev pub ranked_files : List SourceFile → List RankedSource
ranked_files files = enumerate_from 0 files

-- the specifications of a declaration: the single one, or those in its parentheses
abbrev pub group_items : {X : Type 0} → Group X → List X
group_items (single x) = x ∷ []
group_items (several o xs c) = map (λ x. x.value) xs

-- the imports of a file
abbrev pub imports_in : FileTree → List ImportTree
imports_in t = flat_map (λ d. group_items d.imports) t.imports

-- the name in the package clause of a file
abbrev pub clause_name : SourceFile → List ℕ
clause_name s = spelling_of s s.tree.name

-- the name of a package: that in the package clause of its first file
abbrev pub package_name : List SourceFile → List ℕ
package_name [] = []
package_name (s ∷ others) = clause_name s

-- the token is a string literal with this value
pub record HasLiteral (s : SourceFile) (token : ℕ) (value : List ℕ) : Type 0 where
  pub is_string : IsStringClass (token_at s.cut token).class
  pub stands_for : HasStringValue (bytes_of s.cut.text (token_at s.cut token)) value
