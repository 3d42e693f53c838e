-- The tokens at which the identifiers of a package are.
use Rattle.std.specs.Prelude.{ℕ, ◌≡◌, ◌<◌, List, map, Contains, Some, slice_get, All}
use Rattle.go_ast.specs.declared.syntax.Token.{Token}
use Rattle.go_ast.specs.Kinds.{kinds_of}
use Rattle.go_ast.specs.SourceFile.{FileParts, IsSourceFile, source_of}
use Rattle.go_scope.specs.declared.model.Position.{Position}
use Rattle.go_scope.specs.Bindings.{Layout}
use Rattle.go_scope.specs.Site.{Site, TokenSpellings}
use Rattle.go_scope.specs.Table.{LiesAt}
use Rattle.law_tokens.specs.Tokens.{identifiers_among}

-- The Position of a token in the file of that rank.
abbrev pub place_in : ℕ → Token → Position
place_in rank t = record { file = rank; index = t.place }

-- The identifiers are at exactly these tokens, in their order, and have the bytes of the tokens as names.
pub record CoverTokens (s : TokenSpellings) (xs : List Site) (ts : List Token) : Type 0 where
  pub places : map (λ x. x.place) xs ≡ map (place_in s.rank) ts
  pub names : map (λ x. x.name) xs ≡ map (λ t. s.spell t.place) ts

-- The token at the Position is one of `identifiers_among` the tokens of its file: an identifier token, or an import's string literal.
pub record IsIdentifierPlace (files : List FileParts) (at : Position) : Type 0 where
  pub file : FileParts
  pub of_rank : slice_get files at.file ≡ Some file
  pub token : Token
  pub is_identifier : Contains (identifiers_among (kinds_of file.cut)) token
  pub stands : token.place ≡ at.index

-- One of the first `size` identifiers is at the Position.
abbrev pub HasIdentifierAt : Layout → ℕ → Position → Type 0
HasIdentifierAt l size at = (u : ℕ) × ((u < size) × LiesAt l at u)

-- Each file has the tree of its text.
abbrev pub AreSourceFiles : List FileParts → Type 0
AreSourceFiles files = All (λ f. IsSourceFile (source_of f)) files
