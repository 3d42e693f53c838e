-- The folder of a session, as a path with a slash behind it.
use Rattle.std.specs.Prelude.{ℕ, ◌≡◌, ◌⊎◌, ◌==◌, ◌++◌, List, codes, if◌then◌else◌, nat_eq, Option, None, Some, IsUtf8, string_bytes}
use Rattle.std.specs.Cmp.Lexicographic.{pointwise}
use Rattle.std.specs.List.{ends_with, starts_with}
use Rattle.serde_json.specs.Data.{Data}
use Rattle.lsp_documents.specs.Uris.{HasNoRest, IsPathIn}
use Rattle.lsp_edits.specs.declared.naming.FolderNaming.{FolderNaming}
use Rattle.lsp_params.specs.Client.{abilities_in, root_in}
use Rattle.tool_text.specs.Plain.{plain_path, without_suffix}
use Rattle.lsp_editor.specs.declared.editor.Editor.{Editor}

-- The path with a slash behind it.
abbrev pub with_slash : List ℕ → List ℕ
with_slash path = if ends_with nat_eq path (codes "/") then path else path ++ codes "/"

-- The path without a slash behind it, unless it is the root.
abbrev pub without_slash : List ℕ → List ℕ
without_slash path = if pointwise ◌==◌ path (codes "/") then path else without_suffix (codes "/") path

-- The folder that a word of the command line names, where the program runs in the folder `here`.
abbrev pub folder_from : (here root : List ℕ) → List ℕ
folder_from here root =
    if starts_with nat_eq root (codes "/") then with_slash root
    else (if pointwise ◌==◌ root (codes ".") then here else (here ++ plain_path root) ++ codes "/")

-- The folder of a path. A path that is no UTF-8 is none of a folder here.
abbrev pub IsFolderAt : (path : List ℕ) → Option (List ℕ) → Type 0
IsFolderAt path folder = (IsUtf8 path × (folder ≡ Some (with_slash path))) ⊎ ((IsUtf8 path → ⊥) × (folder ≡ None))

abbrev pub IsFolderOf : Option (List ℕ) → Option (List ℕ) → Type 0
IsFolderOf None folder = folder ≡ None
IsFolderOf (Some uri) folder = ((path : List ℕ) × IsPathIn uri path × IsFolderAt path folder) ⊎ (HasNoRest uri × (folder ≡ None))

-- The folder that the parameters of initialize name; none where they name none.
abbrev pub NamesFolder : (params : Data) → Option (List ℕ) → Type 0
NamesFolder params folder = IsFolderOf (root_in params) folder

-- The editor has this folder, if there is one.
abbrev pub HasFolder : Option (List ℕ) → Editor → Editor → Type 0
HasFolder None old new = new ≡ old
HasFolder (Some root) old new = (naming : FolderNaming) × (string_bytes naming.root ≡ root) × (naming.prefix ≡ old.naming.prefix)
    × (new ≡ record old { naming = naming })

-- What initialize says is noted: what the client can do, and the folder. Without parameters nothing is said.
abbrev pub NotesClient : Option Data → Editor → Editor → Type 0
NotesClient None old new = new ≡ old
NotesClient (Some params) old new = (folder : Option (List ℕ)) × NamesFolder params folder
    × HasFolder folder (record old { abilities = abilities_in params }) new
