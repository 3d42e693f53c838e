-- Packages that import the package whose name changes, and need no scope table for it: their tokens tell that the new name stands nowhere in
-- them, and which tokens are the old name of the package.
use Rattle.std.specs.Prelude.{ℕ, suc, ◌≡◌, ◌<◌, ◌⊎◌, Bool, true, List, Some, length, slice_get}
use Rattle.std.specs.Global.{Vec}
use Rattle.go_scanner.specs.CutText.{tokens_in, token_at}
use Rattle.go_scanner.specs.TokenValues.{IsStringClass}
use Rattle.go_ast.specs.SourceFile.{SourceFile, spelling_of}
use Rattle.go_scope.specs.declared.model.Position.{Position}
use Rattle.types_declared.specs.Package.{Package}
use Rattle.types_info.specs.declared.lists.Qualified.{Qualified}
use Rattle.types_info.specs.Lists.{IsListedUnder}
use Rattle.types_info.specs.QualifiedIdentifiers.{AreQualified}
use Rattle.refs_binding.specs.Identifiers.{IsNameToken}
use Rattle.refactor_move.specs.Uses.{mark_at}

-- If the token is a name, it is not the new one, and it is marked if it is the old one. Only the old name is marked, and no string is behind
-- it.
pub record IsPlainToken (f : SourceFile) (name old : List ℕ) (i : ℕ) (mark : Bool) : Type 0 where
  pub other : IsNameToken (slice_get (tokens_in f.cut) i) → spelling_of f i ≡ name → ⊥
  pub marked : IsNameToken (slice_get (tokens_in f.cut) i) → spelling_of f i ≡ old → mark ≡ true
  pub called : mark ≡ true → spelling_of f i ≡ old
  pub named : mark ≡ true → IsNameToken (slice_get (tokens_in f.cut) i)
  pub behind : mark ≡ true → IsStringClass (token_at f.cut (suc i)).class → ⊥

-- So is each token of the file of this rank, and nothing else is marked.
pub record IsPlainFile (f : SourceFile) (name old : List ℕ) (rank : ℕ) (rows : List (Vec Bool)) : Type 0 where
  pub inside : (i : ℕ) → mark_at rows rank i ≡ true → i < length (tokens_in f.cut)
  pub each : (i : ℕ) → i < length (tokens_in f.cut) → IsPlainToken f name old i (mark_at rows rank i)

-- So are these files.
abbrev pub ArePlainFiles : List SourceFile → (name old : List ℕ) → List (Vec Bool) → Type 0
ArePlainFiles files name old rows = (rank : ℕ) (f : SourceFile) → slice_get files rank ≡ Some f → IsPlainFile f name old rank rows

-- The position two behind a token of a file: that of the name in a qualified identifier.
abbrev pub behind_dot : (file token : ℕ) → Position
behind_dot file token = record { file = file; index = suc (suc token) }

-- The marked tokens are those that were marked before, and only such of which `R` holds.
abbrev pub MoreMarks : (old new : List (Vec Bool)) → (R : (file token : ℕ) → Type 0) → Type 0
MoreMarks old new R = (file token : ℕ) → mark_at new file token ≡ true → (mark_at old file token ≡ true) ⊎ R file token

-- Each marked token stands in a qualified identifier that is listed under the path.
abbrev pub MarkListed : List Qualified → (path : List ℕ) → List (Vec Bool) → Type 0
MarkListed lists path rows = (file token : ℕ) → mark_at rows file token ≡ true → IsListedUnder lists path (behind_dot file token)

-- Some token is marked.
pub record HasMarkedToken (rows : List (Vec Bool)) : Type 0 where
  pub file : ℕ
  pub token : ℕ
  pub marked : mark_at rows file token ≡ true

-- The tokens of these files are plain. The marked ones, of which there is one, stand in qualified identifiers that are listed under the path.
pub record ArePlainMarks (lists : List Qualified) (files : List SourceFile) (path name : List ℕ) (rows : List (Vec Bool)) : Type 0 where
  pub old : List ℕ
  pub has_mark : HasMarkedToken rows
  pub listed : MarkListed lists path rows
  pub plain : ArePlainFiles files name old rows

-- So are those of the package, and the lists have its qualified identifiers.
pub record IsPlainPackage (p : Package) (path name : List ℕ) (rows : List (Vec Bool)) : Type 0 where
  pub lists : List Qualified
  pub are_qualified : AreQualified p lists
  pub marks : ArePlainMarks lists p.files path name rows
