-- The paths that file URIs name.
use Rattle.std.specs.Prelude.{ℕ, ◌≡◌, ◌⊎◌, List, ◌∷◌, ◌++◌, Option, None, Some, codes}
use Rattle.percent_encoding.specs.Percent.{percent_decode, percent_encode}
use Rattle.lsp_documents.specs.declared.uris.TheConstants.{ESCAPED}

-- What follows a front of a text; none where the text does not begin with it.
abbrev pub IsRestBehind : (front text : List ℕ) → Option (List ℕ) → Type 0
IsRestBehind front text None = (rest : List ℕ) → text ≡ front ++ rest → ⊥
IsRestBehind front text (Some rest) = text ≡ front ++ rest

-- The text without the host in front, where that is this one.
abbrev pub IsWithoutHost : (text path : List ℕ) → Type 0
IsWithoutHost text path = IsRestBehind (codes "localhost") text (Some path) ⊎ (IsRestBehind (codes "localhost") text None × (path ≡ text))

abbrev pub BeginsWithSlash : List ℕ → Type 0
BeginsWithSlash text = (more : List ℕ) × (text ≡ 47 ∷ more)

-- The URI has the scheme of files and no host, or this one, and `rest` is what follows them: a path that begins with a slash.
abbrev pub IsFileUri : List ℕ → List ℕ → Type 0
IsFileUri uri rest = ((uri ≡ codes "file://" ++ rest) ⊎ (uri ≡ codes "file://" ++ (codes "localhost" ++ rest))) × BeginsWithSlash rest

abbrev pub HasNoRest : List ℕ → Type 0
HasNoRest uri = (rest : List ℕ) → IsFileUri uri rest → ⊥

-- The URI names this path: the path in it, with each escape replaced by its byte.
abbrev pub IsPathIn : List ℕ → List ℕ → Type 0
IsPathIn uri path = (rest : List ℕ) × IsFileUri uri rest × (path ≡ percent_decode rest)

-- The URI of an absolute path.
abbrev pub uri_text : List ℕ → List ℕ
uri_text path = codes "file://" ++ percent_encode ESCAPED path
