-- Laws of documents and URIs.
use Rattle.std.specs.Prelude.{ℕ, ◌≡◌, ◌<◌, List, ◌∷◌, Option, None}
use Rattle.std.specs.List.{All}
use Rattle.lsp_position.specs.Offsets.{IsAtOrBefore}
use Rattle.lsp_position.specs.declared.units.PositionEncoding.{PositionEncoding}
use Rattle.lsp_documents.specs.Changes.{ChangesMake, PartMakes}
use Rattle.lsp_documents.specs.Uris.{IsPathIn, uri_text}
use Rattle.lsp_documents.specs.declared.changes.ChangedPart.{ChangedPart}
use Rattle.lsp_documents.specs.declared.changes.TextChange.{TextChange}

-- Content changes make one text, or none.
abbrev pub ChangesMakeOneText : Type 0
ChangesMakeOneText = (encoding : PositionEncoding) (text : Option (List ℕ)) (changes : List TextChange) (a b : Option (List ℕ))
    → ChangesMake encoding text changes a → ChangesMake encoding text changes b → a ≡ b

-- A part makes a text, unless its end lies before its start.
abbrev pub OrderedPartsMakeTexts : Type 0
OrderedPartsMakeTexts = (encoding : PositionEncoding) (text : List ℕ) (part : ChangedPart) → IsAtOrBefore part.start part.end
    → PartMakes encoding text part None → ⊥

-- The URI of an absolute path names this path, and no other.
abbrev pub UrisNamePaths : Type 0
UrisNamePaths = (more : List ℕ) → All (λ byte. byte < 256) (47 ∷ more) → IsPathIn (uri_text (47 ∷ more)) (47 ∷ more)
