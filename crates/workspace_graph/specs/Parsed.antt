-- The files of a package after parsing.
use Rattle.std.specs.Prelude.{◌≡◌, ℕ, List, [], ◌∷◌}
use Rattle.go_ast.specs.Faults.{IsFaultOf}
use Rattle.go_ast.specs.SourceFile.{FileParts, source_of}
use Rattle.workspace_graph.specs.FaultyFiles.{FaultyParts}
use Rattle.workspace_graph.specs.declared.parsed.ParsedFile.{ParsedFile}
use Rattle.workspace_graph.specs.declared.parsed.ParsedFile.TheVariants as parsed
use Rattle.workspace_graph.specs.Packages.{IsParsed}

-- `file` is a file without a tree: it has the path, the text, and the first fault of the text.
pub record IsFaulty (path : List ℕ) (text : List ℕ) (file : FaultyParts) : Type 0 where
  pub of_path : file.path ≡ path
  pub of_text : file.text ≡ text
  pub is_fault : IsFaultOf text file.fault

-- The files, in their order, are split into the trees of those that parse, and the others with their first faults.
pub data AreParsed : List (List ℕ × List ℕ) → List FileParts → List FaultyParts → Type 0 where
  none : AreParsed [] [] []
  tree : {e : List ℕ × List ℕ} {es : List (List ℕ × List ℕ)} {t : FileParts} {ts : List FileParts} {fs : List FaultyParts} →
      IsParsed e.0 e.1 (source_of t) → AreParsed es ts fs → AreParsed (e ∷ es) (t ∷ ts) fs
  fault : {e : List ℕ × List ℕ} {es : List (List ℕ × List ℕ)} {ts : List FileParts} {f : FaultyParts} {fs : List FaultyParts} → IsFaulty e.0 e.1 f →
      AreParsed es ts fs → AreParsed (e ∷ es) ts (f ∷ fs)

-- The result of parsing a file with this path and text: its tree, or its first fault.
abbrev pub IsParsedAs : List ℕ → List ℕ → ParsedFile → Type 0
IsParsedAs path text (parsed.Sound file) = IsParsed path text (source_of file)
IsParsedAs path text (parsed.Faulty file) = IsFaulty path text file
