-- What the server keeps of an editor, and how notes change it.
use Rattle.std.specs.Prelude.{ℕ, ◌≡◌, ◌+◌, ◌-◌, ◌^◌, Bool, true, false, List, [], None, min, string_bytes}
use Rattle.lsp_documents.specs.Documents.{document_at}
use Rattle.lsp_documents.specs.declared.documents.Documents.{Documents}
use Rattle.lsp_edits.specs.declared.telling.Telling.{Telling}
use Rattle.lsp_position.specs.declared.units.PositionEncoding.TheVariants.{Utf16}
use Rattle.lsp_editor.specs.declared.editor.Awaited.{Awaited}
use Rattle.lsp_editor.specs.declared.editor.Awaited.TheVariants.{Documents as InDocuments, Nothing, OtherFiles}
use Rattle.lsp_editor.specs.declared.editor.Editor.{Editor}

-- An editor that did not initialize yet: it counts in UTF-16, no document is open, and nothing is known of its folder but the path.
pub record IsNewEditor (root : List ℕ) (editor : Editor) : Type 0 where
  pub abilities : editor.abilities ≡ record { encoding = Utf16; has_document_changes = false }
  pub folder : string_bytes editor.naming.root ≡ root
  pub prefix : string_bytes editor.naming.prefix ≡ []
  pub documents : (name : List ℕ) → document_at editor.documents name ≡ None
  pub published : editor.published.entries ≡ []
  pub is_stale : editor.is_stale ≡ true
  pub awaited : editor.awaited ≡ Nothing
  pub undos : editor.undos ≡ 0
  pub redos : editor.redos ≡ 0

-- Answers are told by what is kept of this editor.
pub record TellsBy (editor : Editor) (telling : Telling) : Type 0 where
  pub abilities : telling.abilities ≡ editor.abilities
  pub naming : telling.naming.now ≡ editor.naming
  pub documents : telling.documents.now ≡ editor.documents

-- The editor with these documents.
abbrev pub with_documents : Editor → Documents → Editor
with_documents editor documents = record editor { documents = documents }

-- Files on the disk may have changed.
abbrev pub stale : Editor → Editor
stale editor = record editor { is_stale = true }

-- Whether the client is yet to make edits that it was told.
abbrev pub is_awaiting : Awaited → Bool
is_awaiting Nothing = false
is_awaiting InDocuments = true
is_awaiting OtherFiles = true

-- What is awaited behind a document that was opened: it may have the text from before the edits.
abbrev pub opened_behind : Awaited → Awaited
opened_behind Nothing = Nothing
opened_behind InDocuments = InDocuments
opened_behind OtherFiles = InDocuments

-- A document was opened.
abbrev pub as_opened : Editor → Editor
as_opened editor = record editor { awaited = opened_behind editor.awaited }

-- Each document that is open has the text from behind the edits.
abbrev pub made_in_documents : Editor → Editor
made_in_documents editor = record editor { awaited = OtherFiles }

-- No edits are awaited any more: the texts that the client and the disk have count.
abbrev pub as_settled : Editor → Editor
as_settled editor = record editor { awaited = Nothing }

-- The client is to make edits that the book has already, and to write files.
abbrev awaiting : Editor → Editor
awaiting editor = record editor { is_stale = true; awaited = InDocuments }

-- One more, as far as a counter goes.
abbrev one_more : ℕ → ℕ
one_more count = min (count + 1) (2 ^ 64 - 1)

-- A rename was told: it can be taken back, and what was taken back before is not done again.
abbrev pub renamed : Editor → Editor
renamed editor = awaiting (record editor { undos = one_more editor.undos; redos = 0 })

-- A rename was taken back: it can be done again.
abbrev pub undone : Editor → Editor
undone editor = awaiting (record editor { undos = editor.undos - 1; redos = one_more editor.redos })

-- A rename was done again: it can be taken back.
abbrev pub redone : Editor → Editor
redone editor = awaiting (record editor { undos = one_more editor.undos; redos = editor.redos - 1 })

-- Texts came that are no rename's: no rename before them is taken back.
abbrev pub told_texts : Editor → Editor
told_texts editor = record editor { undos = 0; redos = 0 }
