-- The name that is inserted before the string literal of an import.
use Rattle.std.specs.Prelude.{ℕ, suc, ◌≡◌, ◌+◌, List, [], ◌∷◌, ◌++◌, length, codes}
use Rattle.go_ast.specs.SourceFile.{SourceFile, spelling_of, offset_of}

-- The token is the word `import` and ends at this offset.
pub record EndsImport (f : SourceFile) (token offset : ℕ) : Type 0 where
  pub word : spelling_of f token ≡ codes "import"
  pub ends : offset_of f token + length (spelling_of f token) ≡ offset

-- The token before is the word `import`, with no space between, as in `import"shapes"`.
pub record FollowsImportWord (f : SourceFile) (token : ℕ) : Type 0 where
  pub before : ℕ
  pub next : token ≡ suc before
  pub is_import : EndsImport f before (offset_of f token)

-- The bytes that give an import a name before its literal: the name and a space. A space comes first where the word `import` ends at the
-- literal.
pub data IsNameBefore (f : SourceFile) (token : ℕ) (name : List ℕ) : List ℕ → Type 0 where
  apart : (FollowsImportWord f token → ⊥) → IsNameBefore f token name (name ++ 32 ∷ [])
  joined : FollowsImportWord f token → IsNameBefore f token name (32 ∷ [] ++ (name ++ 32 ∷ []))
