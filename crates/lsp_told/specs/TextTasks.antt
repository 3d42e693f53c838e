-- Which texts of files a desk is to be given.
use Rattle.std.specs.Prelude.{ℕ, ◌≡◌, ◌⊎◌, ◌==◌, Bool, true, false, not, List, [], ◌∷◌, ◌++◌, Option, None, Some, String, if◌then◌else◌, string_bytes}
use Rattle.std.specs.Cmp.Lexicographic.{pointwise}
use Rattle.std.specs.FinMap as map
use Rattle.std.specs.List.{flat_map}
use Rattle.std.specs.declared.alloc.Global.{Global}
use Rattle.base_files.specs.Path.{IsPath}
use Rattle.base_files.specs.Workspace.{Workspace}
use Rattle.lsp_documents.specs.Changes.{text_made}
use Rattle.lsp_documents.specs.Documents.{document_at}
use Rattle.lsp_documents.specs.declared.documents.Document.{Document}
use Rattle.lsp_documents.specs.declared.documents.Documents.{Documents}
use Rattle.lsp_told.specs.Listed.{AreCollected}
use Rattle.lsp_told.specs.declared.text_tasks.TextTask.{TextTask}

-- Whether a file has another text, or is none.
abbrev pub has_other : Option (List ℕ) → (text : List ℕ) → Bool
has_other (Some old) text = not (pointwise ◌==◌ old text)
has_other None text = true

-- The file is to have this text.
abbrev pub put_task : (path text : List ℕ) → TextTask
put_task path text = record { path = path; text = Some text }

-- The file is to go.
abbrev pub del_task : (path : List ℕ) → TextTask
del_task path = record { path = path; text = None }

-- The put of a file that is not open, unless it has this text.
abbrev pub other_put : (held : Option (List ℕ)) → (path text : List ℕ) → List TextTask
other_put held path text = if has_other held text then put_task path text ∷ [] else []

abbrev put_if_closed : Option Document → (held : Option (List ℕ)) → (path text : List ℕ) → List TextTask
put_if_closed (Some document) held path text = []
put_if_closed None held path text = other_put held path text

-- The put of a file on the disk. Where the file is open there is none: then its text is the client's.
abbrev pub found_put : Workspace → Documents → (path text : List ℕ) → List TextTask
found_put files documents path text = put_if_closed (document_at documents path) (map.get files path) path text

-- The puts of the files on the disk.
abbrev pub found_puts : Workspace → Documents → (disk : Workspace) → List TextTask
found_puts files documents disk = flat_map (λ (file : List ℕ × List ℕ). found_put files documents file.0 file.1) (map.entries disk)

-- The del of a file that is not on the disk, unless it is open.
abbrev pub closed_del : Option Document → (path : List ℕ) → List TextTask
closed_del (Some document) path = []
closed_del None path = del_task path ∷ []

abbrev del_unless : (held : Option (List ℕ)) → Option Document → (path : List ℕ) → List TextTask
del_unless (Some text) document path = []
del_unless None document path = closed_del document path

-- The del of a file that is neither on the disk nor open.
abbrev pub missing_del : Documents → (disk : Workspace) → (path : List ℕ) → List TextTask
missing_del documents disk path = del_unless (map.get disk path) (document_at documents path) path

-- The dels of files that are neither on the disk nor open.
abbrev pub missing_dels : Workspace → Documents → (disk : Workspace) → List TextTask
missing_dels files documents disk = flat_map (λ (file : List ℕ × List ℕ). missing_del documents disk file.0) (map.entries files)

-- What makes files those on the disk, but for those that are open.
abbrev pub disk_tasks : Workspace → Documents → (disk : Workspace) → List TextTask
disk_tasks files documents disk = missing_dels files documents disk ++ found_puts files documents disk

-- The put of a text, where a file can have the name and has another text, or is none.
abbrev pub FindsPut : Workspace → (name text : List ℕ) → Option TextTask → Type 0
FindsPut files name text (Some task) = IsPath 2 name × (has_other (map.get files name) text ≡ true) × (task ≡ put_task name text)
FindsPut files name text None = (IsPath 2 name → ⊥) ⊎ (has_other (map.get files name) text ≡ false)

-- The put of a document. Of one whose text is not known there is none.
abbrev pub IsPutOf : Workspace → (name : List ℕ) → Option (List ℕ) → Option TextTask → Type 0
IsPutOf files name None put = put ≡ None
IsPutOf files name (Some text) put = FindsPut files name text put

-- The put of a document of a name.
abbrev pub IsPutAt : Workspace → String Global × Document → Option TextTask → Type 0
IsPutAt files entry put = IsPutOf files (string_bytes entry.0) (text_made entry.1.text) put

-- The puts of documents, in their order.
abbrev pub ArePuts : Workspace → List (String Global × Document) → List TextTask → Type 0
ArePuts files = AreCollected (IsPutAt files)
