-- Which identifiers of a package declare, and to which declaration each is bound (Go specification, "Declarations and scope").
use Rattle.std.specs.Prelude.{ℕ, ◌≡◌, ◌<◌, ◌⊎◌, List, Bool, true, false}
use Rattle.go_scope.specs.declared.model.Role.{Role}
use Rattle.go_scope.specs.declared.model.Role.TheVariants.{Use, Declaring, LeftName, Implied, NotLexical}
use Rattle.go_scope.specs.declared.model.Position.{Position}
use Rattle.go_scope.specs.declared.model.Block.{Block}
use Rattle.go_scope.specs.declared.model.Block.TheVariants.{Universe, Package, File}
use Rattle.go_scope.specs.declared.model.Scope.{Scope}
use Rattle.go_scope.specs.Scopes.{scope_for, Holds, IsInside}

-- an identifier of this role may declare: it is declaring, a left name of `:=`, or predeclared
abbrev pub may_declare : Role → Bool
may_declare (Declaring block start) = true
may_declare (LeftName block start) = true
may_declare (Implied block start) = true
may_declare Use = false
may_declare (NotLexical p) = false

-- the role is that of a left name of `:=`
abbrev pub is_left_name : Role → Bool
is_left_name (LeftName block start) = true
is_left_name (Declaring block start) = false
is_left_name (Implied block start) = false
is_left_name Use = false
is_left_name (NotLexical p) = false

-- the role is that of a plain use
abbrev pub is_use : Role → Bool
is_use Use = true
is_use (Declaring block start) = false
is_use (LeftName block start) = false
is_use (Implied block start) = false
is_use (NotLexical p) = false

-- the role is that of a predeclared name
abbrev pub is_implied : Role → Bool
is_implied (Implied block start) = true
is_implied (Declaring block start) = false
is_implied (LeftName block start) = false
is_implied Use = false
is_implied (NotLexical p) = false

-- the block in which an identifier of this role declares; the universe block for a role that does not
abbrev pub block_of : Role → Block
block_of (Declaring block start) = block
block_of (LeftName block start) = block
block_of (Implied block start) = block
block_of Use = Universe
block_of (NotLexical p) = Universe

-- the token index at which the scope begins; 0 for a role that does not declare
abbrev pub start_of : Role → ℕ
start_of (Declaring block start) = start
start_of (LeftName block start) = start
start_of (Implied block start) = start
start_of Use = 0
start_of (NotLexical p) = 0

-- the scope of a declaration of this role
abbrev pub scope_of : Role → Scope
scope_of r = scope_for (block_of r) (start_of r)

-- The roles and positions of a package's identifiers by number, predeclared names included. The role beyond the last one is that of a `_`.
-- A rename changes the names of identifiers and not the layout.
pub record Layout : Type 0 where
  pub role : ℕ → Role
  pub place : ℕ → Position

-- the names of a layout's identifiers, by number
abbrev pub Names : Type 0
Names = ℕ → List ℕ

-- d may declare: it is a declaring identifier, a left name of `:=`, or a predeclared name
abbrev pub MayDeclare : Layout → ℕ → Type 0
MayDeclare l d = may_declare (l.role d) ≡ true

-- d is a left name of `:=`
abbrev pub IsLeftName : Layout → ℕ → Type 0
IsLeftName l d = is_left_name (l.role d) ≡ true

-- d is an identifier in a file, not a predeclared name
abbrev pub IsIdentifier : Layout → ℕ → Type 0
IsIdentifier l d = is_implied (l.role d) ≡ false

-- d and e declare in one block
abbrev pub SameBlock : Layout → ℕ → ℕ → Type 0
SameBlock l d e = block_of (l.role d) ≡ block_of (l.role e)

-- the position of u is in the scope of d
abbrev pub InScope : Layout → ℕ → ℕ → Type 0
InScope l d u = Holds (scope_of (l.role d)) (l.place u)

-- d declares. A left name of `:=` does so unless it is in the scope of a declaration of its name in the same block:
--
--   x := 1
--   x, y := 2, 3   // declares y alone
pub record Declares (l : Layout) (names : Names) (d : ℕ) : Type 0 where
  pub may : MayDeclare l d
  pub is_new : IsLeftName l d → (e : ℕ) → MayDeclare l e → SameBlock l e d → names e ≡ names d → InScope l e d → ⊥

-- d declares in the package block
abbrev pub IsPackageLevel : Layout → ℕ → Type 0
IsPackageLevel l d = block_of (l.role d) ≡ Package

-- d declares in a file block, so it is an import
abbrev pub IsImport : Layout → ℕ → Type 0
IsImport l d = (f : ℕ) × (block_of (l.role d) ≡ File f)

-- e, of the same name, keeps d from counting: e comes first in the same block, or d is an import and e is in the package block
--
--   import q "b"   // does not count
--   var q int
abbrev pub Displaces : Layout → ℕ → ℕ → Type 0
Displaces l e d = (SameBlock l e d × (e < d)) ⊎ (IsPackageLevel l e × IsImport l d)

-- d declares, and no other declaration of its name displaces it
pub record Counts (l : Layout) (names : Names) (d : ℕ) : Type 0 where
  pub declares : Declares l names d
  pub first : (e : ℕ) → Declares l names e → names e ≡ names d → Displaces l e d → ⊥

-- every declaration counts: none is repeated
abbrev pub AllCount : Layout → Names → Type 0
AllCount l names = (d : ℕ) → Declares l names d → Counts l names d

-- A name at the position of u is bound to d: d counts, u is in its scope, and no other such declaration has a scope inside that of d.
--
--   x := 1
--   { x := 2; print(x) }   // bound to the inner x
pub record BindsAt (l : Layout) (names : Names) (name : List ℕ) (u d : ℕ) : Type 0 where
  pub counts : Counts l names d
  pub named : names d ≡ name
  pub in_scope : InScope l d u
  pub innermost : (e : ℕ) → Counts l names e → names e ≡ name → InScope l e u → IsInside (scope_of (l.role e)) (scope_of (l.role d)) → e ≡ d

-- u is a lexical use; a left name of `:=` that does not declare is one too
abbrev pub IsUse : Layout → Names → ℕ → Type 0
IsUse l names u = (is_use (l.role u) ≡ true) ⊎ (IsLeftName l u × (Declares l names u → ⊥))

-- u is bound to the declaration d: a use by its name, and a declaration that counts to itself
pub data IsBoundTo (l : Layout) (names : Names) (u d : ℕ) : Type 0 where
  use_bound : IsUse l names u → BindsAt l names (names u) u d → IsBoundTo l names u d
  own : u ≡ d → Counts l names d → IsBoundTo l names u d
