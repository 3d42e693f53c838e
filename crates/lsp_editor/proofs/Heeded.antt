-- What notifications change, by the documents that are named.
use Rattle.std.proofs.Common.{ℕ, ℤ, ◌≡◌, Bool, List, Option, Some, refl, ap, sym, subst}
use Rattle.serde_json.specs.Data.{Data}
use Rattle.lsp_documents.specs.Documents.{ChangesDocument}
use Rattle.lsp_documents.specs.declared.changes.TextChange.{TextChange}
use Rattle.lsp_documents.specs.declared.documents.Documents.{Documents}
use Rattle.lsp_edits.specs.Naming.{NamesFile}
use Rattle.lsp_params.specs.Changed.{ChangeView, DocumentView, changes_view}
use Rattle.lsp_editor.specs.Editors.{with_documents}
use Rattle.lsp_editor.specs.Heeding.{ChangesNamed, ChangesTo, ClosesNamed, FindsDocument, HeedsNotice, OpensAsked, OpensIf, OpensNamed, TakesDocument}
use Rattle.lsp_editor.specs.declared.editor.Editor.{Editor}
use Rattle.lsp_editor.specs.declared.heeding.Notice.TheVariants as notice

-- a document is opened, if it is taken
pub opened_named : (name : List ℕ) (opened : DocumentView) (taken b : Bool) (old new : Editor) → TakesDocument old.naming name opened.1 taken
    → taken ≡ b → OpensIf b name opened old new → OpensNamed (Some name) opened old new
opened_named name opened taken b old new takes is opens =
    (taken, takes, subst (λ (t : Bool). OpensIf t name opened old new) (sym is) opens)

-- the document that is to be opened has a name
pub opened_in : (opened : DocumentView) (name given : List ℕ) (old new : Editor) → NamesFile old.naming opened.0.0 (Some name) → given ≡ name
    → OpensNamed (Some given) opened old new → OpensAsked (Some opened) old new
opened_in opened name given old new named same opens =
    (Some name, named, subst (λ (n : List ℕ). OpensNamed (Some n) opened old new) same opens)

-- a document is changed by the content changes that are given
pub changed_to : (name : List ℕ) (version : ℤ) (views : Option (List ChangeView)) (changes given : List TextChange) (old : Editor)
    (documents : Documents) → Some (changes_view changes) ≡ views → given ≡ changes
    → ChangesDocument old.abilities.encoding name version given old.documents documents
    → ChangesTo name (Some version) views old (with_documents old documents)
changed_to name version views changes given old documents listed same made =
    subst (λ (v : Option (List ChangeView)). ChangesTo name (Some version) v old (with_documents old documents)) listed
    (given, documents, ap changes_view same, made, refl)

-- the document that is to be changed has a name
pub changed_named : (params : Data) (name given : List ℕ) (old new : Editor) → FindsDocument old.naming params (Some name) → given ≡ name
    → ChangesNamed (Some given) params old new → HeedsNotice notice.Changed params old new
changed_named params name given old new found same changes =
    (Some name, found, subst (λ (n : List ℕ). ChangesNamed (Some n) params old new) same changes)

-- the document that is to be closed has a name
pub closed_named : (params : Data) (name given : List ℕ) (old new : Editor) → FindsDocument old.naming params (Some name) → given ≡ name
    → ClosesNamed (Some given) old new → HeedsNotice notice.Closed params old new
closed_named params name given old new found same closes =
    (Some name, found, subst (λ (n : List ℕ). ClosesNamed (Some n) old new) same closes)
