-- What is published of documents, and what is kept of it.
use Rattle.std.specs.Prelude.{ℕ, ℤ, ◌≡◌, Bool, true, false, List, [], ◌∷◌, ◌++◌, codes, Option, None, Some, map, option_map, string_bytes}
use Rattle.std.specs.BTreeMap.{get_by_text}
use Rattle.std.specs.Str.{bytes_eq}
use Rattle.serde_json.specs.Data.{Data, Items, item, no_items}
use Rattle.serde_json.specs.View.{items_view}
use Rattle.serde_json.specs.Written.{compact_text}
use Rattle.lsp_answers.specs.Faults.{diagnostics_params}
use Rattle.lsp_editor.specs.declared.editor.Editor.{Editor}
use Rattle.lsp_editor.specs.declared.editor.Published.{Published}
use Rattle.lsp_editor.specs.declared.publications.Publication.{Publication}

-- A fault as a line.
abbrev pub compact_line : Data → List ℕ
compact_line fault = compact_text fault ++ codes "\n"

-- Faults as a text, a line for each.
abbrev pub compact_lines : Items → List ℕ
compact_lines no_items = []
compact_lines (item fault others) = compact_line fault ++ compact_lines others

-- What is kept of a document that was published: its URI, its version, and its faults as lines.
pub record PublishedView : Type 0 where
  pub uri : List ℕ
  pub version : ℤ
  pub lines : List ℕ

abbrev pub published_view : Published → PublishedView
published_view published = record { uri = string_bytes published.uri; version = published.version; lines = string_bytes published.text }

-- What is published of a document: its name, what is kept of it, and its faults.
pub record PublicationView : Type 0 where
  pub name : List ℕ
  pub kept : PublishedView
  pub faults : Items

abbrev pub publication_view : Publication → PublicationView
publication_view publication =
    record { name = string_bytes publication.name; kept = published_view publication.published; faults = items_view publication.faults.items }

-- What is published of a document of this name, URI and version with these faults. Kept are their lines.
abbrev pub publication_of : (name uri : List ℕ) → ℤ → Items → PublicationView
publication_of name uri version faults =
    record { name = name; kept = record { uri = uri; version = version; lines = compact_lines faults }; faults = faults }

-- The parameters with which the faults of a document are published.
abbrev pub publication_params : PublicationView → Data
publication_params publication = diagnostics_params publication.kept.uri publication.kept.version publication.faults

-- What is kept of the document of a name, if it was published.
abbrev pub kept_at : Editor → (name : List ℕ) → Option PublishedView
kept_at editor name = option_map published_view (get_by_text editor.published name)

-- The lines that were told last; none where nothing was published.
abbrev pub lines_told : Option PublishedView → List ℕ
lines_told (Some kept) = kept.lines
lines_told None = []

-- All is as before but what was published last.
abbrev pub IsButPublished : (old new : Editor) → Type 0
IsButPublished old new = new ≡ record old { published = new.published }

-- What is kept of a document, where `kept` is of this one or not.
abbrev pub kept_if : (is_this : Bool) → (kept : PublishedView) → Option PublishedView → Option PublishedView
kept_if true kept before = Some kept
kept_if false kept before = before

-- This is kept of the document of this name, and nothing else is changed.
abbrev pub KeepsOne : (name : List ℕ) → PublishedView → (old new : Editor) → Type 0
KeepsOne name kept old new =
    IsButPublished old new × ((other : List ℕ) → kept_at new other ≡ kept_if (bytes_eq name other) kept (kept_at old other))

-- What is kept of the document of a name behind publications, of `before`.
abbrev pub kept_after : List PublicationView → (name : List ℕ) → (before : Option PublishedView) → Option PublishedView
kept_after [] name before = before
kept_after (publication ∷ others) name before =
    kept_after others name (kept_if (bytes_eq publication.name name) publication.kept before)

-- Publications are kept, and nothing else is changed.
abbrev pub Keeps : List PublicationView → (old new : Editor) → Type 0
Keeps publications old new =
    IsButPublished old new × ((name : List ℕ) → kept_at new name ≡ kept_after publications name (kept_at old name))

-- A document is told of: its parameters are added, and what is to be kept of it is kept.
abbrev pub TellsOne : PublicationView → (old new : List Data) → (before after : Editor) → Type 0
TellsOne publication old new before after =
    (new ≡ old ++ publication_params publication ∷ []) × KeepsOne publication.name publication.kept before after

-- Documents are told of: their parameters are added, and what is to be kept of them is kept.
abbrev pub TellsAll : List PublicationView → (old new : List Data) → (before after : Editor) → Type 0
TellsAll publications old new before after = (new ≡ old ++ map publication_params publications) × Keeps publications before after
