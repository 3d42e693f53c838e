-- The uses of members in a package's files, and the entries of values into interfaces.
use Rattle.std.specs.Prelude.{ℕ, ◌≡◌, List, [], ◌∷◌, ◌++◌, map, Some, length, slice_get}
use Rattle.std.specs.Global.{Vec}
use Rattle.go_ast.specs.SourceFile.{SourceFile}
use Rattle.types_expr.specs.declared.found.MemberUse.{MemberUse as FoundUse}
use Rattle.types_expr.specs.declared.found.Entering.{Entering as FoundEntering}
use Rattle.types_expr.specs.Found.{use_of, plain_entering}
use Rattle.types_expr.specs.Judge.{MemberUse, Entering, members_of, enterings_of}
use Rattle.types_expr.specs.World.{World}
use Rattle.types_stmt.specs.Declarations.{check_file}
use Rattle.types_declared.specs.Package.{Package}
use Rattle.types_info.specs.Worlds.{IsWorldOf, is_init}

-- uses are the member uses of the file, in the order in which its expressions are checked
pub record AreUsesIn (p : Package) (file : ℕ) (uses : List MemberUse) : Type 0 where
  pub source : SourceFile
  pub in_file : slice_get p.files file ≡ Some source
  pub world : World
  pub judged_by : IsWorldOf p file source world
  pub found : uses ≡ members_of (check_file world (is_init source) source.tree).uses

-- these are the entries of the file, in the order in which its expressions are checked
pub record AreEnteringsIn (p : Package) (file : ℕ) (enterings : List Entering) : Type 0 where
  pub source : SourceFile
  pub in_file : slice_get p.files file ≡ Some source
  pub world : World
  pub judged_by : IsWorldOf p file source world
  pub found : enterings ≡ enterings_of (check_file world (is_init source) source.tree).uses

-- lists has what Is says of each file below n, by the file's rank
pub record AreFileListsBelow {X : Type 0} (Is : (file : ℕ) → List X → Type 0) (n : ℕ) (lists : List (List X)) : Type 0 where
  pub all : length lists ≡ n
  pub each : (file : ℕ) (list : List X) → slice_get lists file ≡ Some list → Is file list

-- members has the member uses of each file of the package, by the file's rank
abbrev pub AreMemberUses : Package → List (List MemberUse) → Type 0
AreMemberUses p members = AreFileListsBelow (AreUsesIn p) (length p.files) members

-- enterings has the entries of each file of the package, by the file's rank
abbrev pub AreEnterings : Package → List (List Entering) → Type 0
AreEnterings p enterings = AreFileListsBelow (AreEnteringsIn p) (length p.files) enterings

-- the member uses in a list of the program
abbrev pub uses_in : Vec FoundUse → List MemberUse
uses_in uses = map use_of uses.items

-- the entries in a list of the program
abbrev pub enterings_in : Vec FoundEntering → List Entering
enterings_in enterings = map plain_entering enterings.items

-- one more list was appended
abbrev pub AddsFileList : {X : Type 0} → List (List X) → List (List X) → List X → Type 0
AddsFileList old new list = new ≡ old ++ (list ∷ [])

-- the list was appended of which Is says that it is of the file of this rank
abbrev pub AddsFileListOf : {X : Type 0} → ((file : ℕ) → List X → Type 0) → (file : ℕ) → List (List X) → List (List X) → Type 0
AddsFileListOf {X} Is file old new = (list : List X) × (AddsFileList old new list × Is file list)
