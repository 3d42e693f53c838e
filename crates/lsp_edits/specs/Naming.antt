-- The names of files, and their URIs.
use Rattle.std.specs.Prelude.{ℕ, ◌≡◌, ◌⊎◌, ◌++◌, List, Option, None, Some, String, option_map, string_bytes, IsUtf8}
use Rattle.std.specs.declared.alloc.Global.{Global}
use Rattle.lsp_documents.specs.Uris.{HasNoRest, IsPathIn, IsRestBehind, uri_text}
use Rattle.lsp_edits.specs.declared.naming.FolderNaming.{FolderNaming}

-- The bytes of a text, if there is one.
abbrev pub owned_text : Option (String Global) → Option (List ℕ)
owned_text = option_map (λ (text : String Global). string_bytes text)

-- The name of the file at an absolute path: what stands before the folder in names, and the path below the folder. It is none where the
-- file does not lie below the folder.
abbrev pub IsFileName : FolderNaming → (path : List ℕ) → Option (List ℕ) → Type 0
IsFileName naming path (Some name) =
    (rest : List ℕ) × IsRestBehind (string_bytes naming.root) path (Some rest) × (name ≡ string_bytes naming.prefix ++ rest)
IsFileName naming path None = IsRestBehind (string_bytes naming.root) path None

-- The name of the file at a path. A path that is no UTF-8 is none of a file here.
abbrev pub NamesFileAt : FolderNaming → (path : List ℕ) → Option (List ℕ) → Type 0
NamesFileAt naming path name = (IsUtf8 path × IsFileName naming path name) ⊎ ((IsUtf8 path → ⊥) × (name ≡ None))

-- The name of the file that a URI names; none where it names no path, or one that does not lie below the folder.
abbrev pub NamesFile : FolderNaming → (uri : List ℕ) → Option (List ℕ) → Type 0
NamesFile naming uri name = ((path : List ℕ) × IsPathIn uri path × NamesFileAt naming path name) ⊎ (HasNoRest uri × (name ≡ None))

-- The path below the folder of a file of this name.
abbrev pub IsBelowFolder : FolderNaming → (name rest : List ℕ) → Type 0
IsBelowFolder naming name rest = IsRestBehind (string_bytes naming.prefix) name (Some rest)
    ⊎ (IsRestBehind (string_bytes naming.prefix) name None × (rest ≡ name))

-- The URI of the file of a name.
abbrev pub IsUriFor : FolderNaming → (name uri : List ℕ) → Type 0
IsUriFor naming name uri = (rest : List ℕ) × IsBelowFolder naming name rest × (uri ≡ uri_text (string_bytes naming.root ++ rest))
